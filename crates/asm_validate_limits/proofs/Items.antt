-- Declarations, one after another.
use Rattle.std.proofs.Common.{◌≡◌, ℕ, suc, ◌+◌, ◌-◌, ◌<◌, ◌≤◌, List, [], ◌++◌, length, map, drop, get_or, Ok, Err, refl, sym, ap, ◌∙◌, append_assoc, arith}
use Rattle.std.proofs.lemmas.List.{at_drop_more, at_drop_all, length-map}
use Rattle.std.proofs.lemmas.Bool.Decides.{nat_tests}
use Rattle.std.specs.Prelude.{nat_le, ◌&&◌}
use Rattle.sem_words.specs.Lists.{list_items, text_bytes}
use Rattle.asm_lang.specs.Modules as plain
use Rattle.asm_tree.specs.declared.tree.Global_.{Global_}
use Rattle.asm_tree.specs.declared.tree.Function.{Function}
use Rattle.asm_tree.specs.declared.tree.Table.{Table}
use Rattle.asm_tree.specs.Views.{global_view, function_view, table_view}
use Rattle.asm_lang_valid.specs.declared.rule.Rule.TheVariants.{PastLimit}
use Rattle.asm_lang_valid.specs.Rows.{need, function_count, functions_count}
use Rattle.asm_lang_valid.specs.LimitRows.{Mark, rows_of, counted, function_marks, functions_marks, globals_marks, tables_marks, member_length, most_globals, longest_name}
use Rattle.asm_validate_names.specs.declared.refusal.AsmRefusal.{AsmRefusal}
use Rattle.asm_validate_limits.specs.declared.tally.Tally.{Tally}
use Rattle.asm_validate_limits.specs.Passes.{calls_of, Passed, IsFault, Tallied}
use Rattle.asm_validate_limits.specs.Declarations.{global_marks, table_marks}
use Rattle.asm_validate_limits.proofs.Passes.{stop, then_, same, nothing}
use Rattle.asm_validate_limits.proofs.Lists.{Completes, one_more, fault_here}
use Rattle.asm_validate_limits.proofs.Parts.{entered, inside}

pub one_shorter : {A : Type 0} (xs : List A) (i : ℕ) (x : A) → i < length xs → length (drop i xs) ≡ 1 + length (drop (i + 1) xs)
one_shorter xs i x h = at_drop_more (λ l. length l) xs i x h ∙ more (length (drop (i + 1) xs))
  where
    more : (n : ℕ) → suc n ≡ 1 + n
    more n = omega arith

-- a declaration, which is one node, and those after it
node_next : (all here : List Mark) (rest : ℕ → List Mark) (n k : ℕ) (a : Tally) → all ≡ here ++ rest (a.at + 1) → n ≡ 1 + k → Passed here 0 a a → Completes all n a (rest (a.at + 1)) k (entered a)
node_next all here rest n k a e d p c r h =
    let none : n ≡ 0 + (1 + k) = omega arith in
    same all (here ++ rest (a.at + 1)) n (0 + (1 + k)) a c r e none
    (then_ here (rest (a.at + 1)) 0 (1 + k) a a c r p (inside (rest (a.at + 1)) (rest (a.at + 1)) (1 + k) k a c r refl refl h))

node_ends : (all here : List Mark) (rest : ℕ → List Mark) (n : ℕ) (a c : Tally) (x : AsmRefusal) → all ≡ here ++ rest (a.at + 1) → IsFault here (calls_of a) x → Tallied all n a c (Err x)
node_ends all here rest n a c x e h = same all (here ++ rest (a.at + 1)) n n a c (Err x) e refl (stop here (rest (a.at + 1)) (calls_of a) x h)

-- ---- global variables

module _ (m : plain.Module) (vs : List Global_) (i : ℕ) (v : Global_) (h : i < length vs) (is : v ≡ get_or vs i v) where
  globals_left : (at : ℕ) → globals_marks m i at (map global_view (drop i vs)) ≡ global_marks m i at (global_view v) ++ globals_marks m (i + 1) (at + 1) (map global_view (drop (i + 1) vs))
  globals_left at =
      at_drop_more (λ l. globals_marks m i at (map global_view l)) vs i v h
      ∙ sym (append_assoc (counted i most_globals at) (rows_of (need (nat_le (member_length m (global_view (get_or vs i v)).init) longest_name) PastLimit at)) (globals_marks m (i + 1) (at + 1) (map global_view (drop (i + 1) vs))))
      ∙ ap (λ (w : Global_). global_marks m i at (global_view w) ++ globals_marks m (i + 1) (at + 1) (map global_view (drop (i + 1) vs))) (sym is)

  pub next_global : (a : Tally) → Passed (global_marks m i a.at (global_view v)) 0 a a → Completes (globals_marks m i a.at (map global_view (drop i vs))) (length (drop i vs)) a (globals_marks m (i + 1) (a.at + 1) (map global_view (drop (i + 1) vs))) (length (drop (i + 1) vs)) (entered a)
  next_global a p = node_next _ (global_marks m i a.at (global_view v)) (λ at. globals_marks m (i + 1) at (map global_view (drop (i + 1) vs))) _ _ a (globals_left a.at) (one_shorter vs i v h) p

  pub global_ends : (a c : Tally) (x : AsmRefusal) → IsFault (global_marks m i a.at (global_view v)) (calls_of a) x → Tallied (globals_marks m i a.at (map global_view (drop i vs))) (length (drop i vs)) a c (Err x)
  global_ends a c x p = node_ends _ (global_marks m i a.at (global_view v)) (λ at. globals_marks m (i + 1) at (map global_view (drop (i + 1) vs))) (length (drop i vs)) a c x (globals_left a.at) p

pub no_globals : (m : plain.Module) (vs : List Global_) (i : ℕ) (a : Tally) → length vs ≤ i → Tallied (globals_marks m i a.at (map global_view (drop i vs))) (length (drop i vs)) a a (Ok tt)
no_globals m vs i a h = same _ [] _ 0 a a (Ok tt) (at_drop_all (λ l. globals_marks m i a.at (map global_view l)) vs i h) (at_drop_all (λ l. length l) vs i h) (nothing a)

-- ---- tables

module _ (before : ℕ) (ts : List Table) (i : ℕ) (t : Table) (h : i < length ts) (is : t ≡ get_or ts i t) where
  tables_left : (at : ℕ) → tables_marks before at (map table_view (drop i ts)) ≡ table_marks before at (table_view t) ++ tables_marks (before + length (list_items t.members)) (at + 1) (map table_view (drop (i + 1) ts))
  tables_left at =
      at_drop_more (λ l. tables_marks before at (map table_view l)) ts i t h
      ∙ ap (λ (u : Table). table_marks before at (table_view u) ++ tables_marks (before + length (table_view u).members) (at + 1) (map table_view (drop (i + 1) ts))) (sym is)
      ∙ ap (λ n. table_marks before at (table_view t) ++ tables_marks (before + n) (at + 1) (map table_view (drop (i + 1) ts))) (length-map (list_items t.members) text_bytes)

  pub next_table : (a : Tally) → Passed (table_marks before a.at (table_view t)) 0 a a → Completes (tables_marks before a.at (map table_view (drop i ts))) (length (drop i ts)) a (tables_marks (before + length (list_items t.members)) (a.at + 1) (map table_view (drop (i + 1) ts))) (length (drop (i + 1) ts)) (entered a)
  next_table a p = node_next _ (table_marks before a.at (table_view t)) (λ at. tables_marks (before + length (list_items t.members)) at (map table_view (drop (i + 1) ts))) _ _ a (tables_left a.at) (one_shorter ts i t h) p

  pub table_ends : (a c : Tally) (x : AsmRefusal) → IsFault (table_marks before a.at (table_view t)) (calls_of a) x → Tallied (tables_marks before a.at (map table_view (drop i ts))) (length (drop i ts)) a c (Err x)
  table_ends a c x p = node_ends _ (table_marks before a.at (table_view t)) (λ at. tables_marks (before + length (list_items t.members)) at (map table_view (drop (i + 1) ts))) (length (drop i ts)) a c x (tables_left a.at) p

pub no_tables : (before : ℕ) (ts : List Table) (i : ℕ) (a : Tally) → length ts ≤ i → Tallied (tables_marks before a.at (map table_view (drop i ts))) (length (drop i ts)) a a (Ok tt)
no_tables before ts i a h = same _ [] _ 0 a a (Ok tt) (at_drop_all (λ l. tables_marks before a.at (map table_view l)) ts i h) (at_drop_all (λ l. length l) ts i h) (nothing a)

-- the members of a table within the limits, as the code has it
pub within : (n b k m : ℕ) → b ≤ m → (nat_le n k && nat_le n (m - b)) ≡ (nat_le n k && nat_le (b + n) m)
within n b k m h = grind (arith, nat_tests)

-- ---- functions

module _ (m : plain.Module) (fs : List Function) (i : ℕ) (f : Function) (h : i < length fs) (is : f ≡ get_or fs i f) where
  functions_left : (at : ℕ) → functions_marks m i at (map function_view (drop i fs)) ≡ function_marks m i at (function_view f) ++ functions_marks m (i + 1) (at + function_count (function_view f)) (map function_view (drop (i + 1) fs))
  functions_left at =
      at_drop_more (λ l. functions_marks m i at (map function_view l)) fs i f h
      ∙ ap (λ (g : Function). function_marks m i at (function_view g) ++ functions_marks m (i + 1) (at + function_count (function_view g)) (map function_view (drop (i + 1) fs))) (sym is)

  pub functions_step : functions_count (map function_view (drop i fs)) ≡ function_count (function_view f) + functions_count (map function_view (drop (i + 1) fs))
  functions_step =
      at_drop_more (λ l. functions_count (map function_view l)) fs i f h
      ∙ ap (λ (g : Function). function_count (function_view g) + functions_count (map function_view (drop (i + 1) fs))) (sym is)

  pub next_function : (a b : Tally) → Passed (function_marks m i a.at (function_view f)) (function_count (function_view f)) a b → Completes (functions_marks m i a.at (map function_view (drop i fs))) (functions_count (map function_view (drop i fs))) a (functions_marks m (i + 1) b.at (map function_view (drop (i + 1) fs))) (functions_count (map function_view (drop (i + 1) fs))) b
  next_function a b p = one_more _ (function_marks m i a.at (function_view f)) (λ at. functions_marks m (i + 1) at (map function_view (drop (i + 1) fs))) (function_count (function_view f)) _ _ a b (functions_left a.at) functions_step p

  pub function_ends : (a c : Tally) (x : AsmRefusal) → IsFault (function_marks m i a.at (function_view f)) (calls_of a) x → Tallied (functions_marks m i a.at (map function_view (drop i fs))) (functions_count (map function_view (drop i fs))) a c (Err x)
  function_ends a c x p = fault_here _ (function_marks m i a.at (function_view f)) (λ at. functions_marks m (i + 1) at (map function_view (drop (i + 1) fs))) (function_count (function_view f)) (functions_count (map function_view (drop i fs))) a c x (functions_left a.at) p

pub no_functions : (m : plain.Module) (fs : List Function) (i : ℕ) (a : Tally) → length fs ≤ i → Tallied (functions_marks m i a.at (map function_view (drop i fs))) (functions_count (map function_view (drop i fs))) a a (Ok tt)
no_functions m fs i a h = same _ [] _ 0 a a (Ok tt) (at_drop_all (λ l. functions_marks m i a.at (map function_view l)) fs i h) (at_drop_all (λ l. functions_count (map function_view l)) fs i h) (nothing a)
