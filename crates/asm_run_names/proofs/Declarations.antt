-- The names of declarations, one more at a time.
use Rattle.std.proofs.Common.{◌≡◌, ℕ, ◌+◌, ◌<◌, ◌≤◌, true, false, List, [], ◌∷◌, ◌++◌, length, map, drop, get_or, Result, refl, sym, ap, subst, ◌∙◌, append_assoc}
use Rattle.std.proofs.lemmas.List.{at_drop_more, at_drop_all, map-append, append-nil}
use Rattle.std.specs.Prelude.{if◌then◌else◌, IfOk}
use Rattle.std.specs.Borrow.{Bor}
use Rattle.sem_words.specs.Lists.{text_bytes}
use Rattle.asm_tree.specs.declared.tree.Function.{Function}
use Rattle.asm_tree.specs.declared.tree.Table.{Table}
use Rattle.asm_tree.specs.declared.tree.Global_.{Global_}
use Rattle.asm_tree.specs.declared.tree.Param.{Param}
use Rattle.asm_tree.specs.declared.tree.Local.{Local}
use Rattle.asm_tree.specs.Views.{function_view, table_view, global_view, param_view, local_view, init_view}
use Rattle.asm2wasm_translation.specs.Numbers.{int_variables, is_variable}
use Rattle.name_slots.specs.Names.{names_in}
use Rattle.asm_run_names.specs.Names.{function_names, table_names, variable_names, param_names}

-- what is named of a list, of which the first has this name
module _ {X : Type 0} (named : List X → List (List ℕ)) (name : X → List ℕ) (first : (x : X) (xs : List X) → named (x ∷ xs) ≡ name x ∷ named xs) where
  name_more : (bs : List (Bor (List ℕ))) (b : Bor (List ℕ)) (xs : List X) (i : ℕ) (x : X) → i < length xs → x ≡ get_or xs i x → b.now ≡ name x → names_in (bs ++ b ∷ []) ++ named (drop (i + 1) xs) ≡ names_in bs ++ named (drop i xs)
  name_more bs b xs i x h is same =
      let rest = named (drop (i + 1) xs) in
      ap (λ l. l ++ rest) (map-append (λ (b : Bor (List ℕ)). b.now) bs (b ∷ [])) ∙ append_assoc (names_in bs) (b.now ∷ []) rest
      ∙ ap (λ y. names_in bs ++ y ∷ rest) same
      ∙ ap (λ (w : X). names_in bs ++ name w ∷ rest) is
      ∙ sym (ap (λ l. names_in bs ++ l) (first (get_or xs i x) (drop (i + 1) xs)))
      ∙ sym (at_drop_more (λ l. names_in bs ++ named l) xs i x h)

pub function_more : (bs : List (Bor (List ℕ))) (b : Bor (List ℕ)) (fs : List Function) (i : ℕ) (f : Function) → i < length fs → f ≡ get_or fs i f → b.now ≡ text_bytes f.name →
    names_in (bs ++ b ∷ []) ++ function_names (map function_view (drop (i + 1) fs)) ≡ names_in bs ++ function_names (map function_view (drop i fs))
function_more = name_more (λ (fs : List Function). function_names (map function_view fs)) (λ (f : Function). text_bytes f.name) (λ x xs. refl)

pub table_more : (bs : List (Bor (List ℕ))) (b : Bor (List ℕ)) (ts : List Table) (i : ℕ) (t : Table) → i < length ts → t ≡ get_or ts i t → b.now ≡ text_bytes t.name →
    names_in (bs ++ b ∷ []) ++ table_names (map table_view (drop (i + 1) ts)) ≡ names_in bs ++ table_names (map table_view (drop i ts))
table_more = name_more (λ (ts : List Table). table_names (map table_view ts)) (λ (t : Table). text_bytes t.name) (λ x xs. refl)

pub param_more : (bs : List (Bor (List ℕ))) (b : Bor (List ℕ)) (ps : List Param) (i : ℕ) (p : Param) → i < length ps → p ≡ get_or ps i p → b.now ≡ text_bytes p.name →
    names_in (bs ++ b ∷ []) ++ param_names (map param_view (drop (i + 1) ps)) ≡ names_in bs ++ param_names (map param_view (drop i ps))
param_more = name_more (λ (ps : List Param). param_names (map param_view ps)) (λ (p : Param). text_bytes p.name) (λ x xs. refl)

pub local_more : (bs : List (Bor (List ℕ))) (b : Bor (List ℕ)) (ls : List Local) (i : ℕ) (l : Local) → i < length ls → l ≡ get_or ls i l → b.now ≡ text_bytes l.name →
    names_in (bs ++ b ∷ []) ++ variable_names (map local_view (drop (i + 1) ls)) ≡ names_in bs ++ variable_names (map local_view (drop i ls))
local_more = name_more (λ (ls : List Local). variable_names (map local_view ls)) (λ (l : Local). text_bytes l.name) (λ x xs. refl)

-- ---- where all have been named

none_more : {X : Type 0} (named : List X → List (List ℕ)) (bs : List (List ℕ)) (xs : List X) (i : ℕ) (all : List (List ℕ)) → [] ≡ named [] → length xs ≤ i → bs ++ named (drop i xs) ≡ all → bs ≡ all
none_more named bs xs i all none h k = sym (append-nil bs) ∙ ap (λ l. bs ++ l) (none ∙ sym (at_drop_all named xs i h)) ∙ k

pub no_function : (bs : List (List ℕ)) (fs : List Function) (i : ℕ) (all : List (List ℕ)) → length fs ≤ i → bs ++ function_names (map function_view (drop i fs)) ≡ all → bs ≡ all
no_function bs fs i all h k = none_more (λ (fs : List Function). function_names (map function_view fs)) bs fs i all refl h k

pub no_table : (bs : List (List ℕ)) (ts : List Table) (i : ℕ) (all : List (List ℕ)) → length ts ≤ i → bs ++ table_names (map table_view (drop i ts)) ≡ all → bs ≡ all
no_table bs ts i all h k = none_more (λ (ts : List Table). table_names (map table_view ts)) bs ts i all refl h k

pub no_param : (bs : List (List ℕ)) (ps : List Param) (i : ℕ) (all : List (List ℕ)) → length ps ≤ i → bs ++ param_names (map param_view (drop i ps)) ≡ all → bs ≡ all
no_param bs ps i all h k = none_more (λ (ps : List Param). param_names (map param_view ps)) bs ps i all refl h k

pub no_local : (bs : List (List ℕ)) (ls : List Local) (i : ℕ) (all : List (List ℕ)) → length ls ≤ i → bs ++ variable_names (map local_view (drop i ls)) ≡ all → bs ≡ all
no_local bs ls i all h k = none_more (λ (ls : List Local). variable_names (map local_view ls)) bs ls i all refl h k

-- what the slots are of leads on to what is told
pub slots_are : {E : Type 0} (r : Result (List (List ℕ)) E) (bs all : List (List ℕ)) → bs ≡ all → IfOk r (λ s. s ≡ bs) → IfOk r (λ s. s ≡ all)
slots_are r bs all is h = subst (λ ns. IfOk r (λ s. s ≡ ns)) is h

-- ---- declarations that make an int variable, and others

abbrev variables : List Global_ → List (List ℕ)
variables vs = variable_names (int_variables (map global_view vs))

variables_step : (vs : List Global_) (i : ℕ) (v : Global_) → i < length vs → v ≡ get_or vs i v → variables (drop i vs) ≡ variable_names (if is_variable (init_view v.init) then global_view v ∷ int_variables (map global_view (drop (i + 1) vs)) else int_variables (map global_view (drop (i + 1) vs)))
variables_step vs i v h is =
    at_drop_more variables vs i v h
    ∙ ap (λ (w : Global_). variable_names (if is_variable (init_view w.init) then global_view w ∷ int_variables (map global_view (drop (i + 1) vs)) else int_variables (map global_view (drop (i + 1) vs)))) (sym is)

pub variable_more : (bs : List (Bor (List ℕ))) (b : Bor (List ℕ)) (vs : List Global_) (i : ℕ) (v : Global_) → i < length vs → v ≡ get_or vs i v → true ≡ is_variable (init_view v.init) → b.now ≡ text_bytes v.name →
    names_in (bs ++ b ∷ []) ++ variable_names (int_variables (map global_view (drop (i + 1) vs))) ≡ names_in bs ++ variable_names (int_variables (map global_view (drop i vs)))
variable_more bs b vs i v h is k same =
    let rest = variables (drop (i + 1) vs) in
    ap (λ l. l ++ rest) (map-append (λ (b : Bor (List ℕ)). b.now) bs (b ∷ [])) ∙ append_assoc (names_in bs) (b.now ∷ []) rest
    ∙ ap (λ y. names_in bs ++ y ∷ rest) same
    ∙ ap (λ b. names_in bs ++ variable_names (if b then global_view v ∷ int_variables (map global_view (drop (i + 1) vs)) else int_variables (map global_view (drop (i + 1) vs)))) k
    ∙ ap (λ l. names_in bs ++ l) (sym (variables_step vs i v h is))

pub no_variable : (bs : List (Bor (List ℕ))) (vs : List Global_) (i : ℕ) (v : Global_) → i < length vs → v ≡ get_or vs i v → false ≡ is_variable (init_view v.init) →
    names_in bs ++ variable_names (int_variables (map global_view (drop (i + 1) vs))) ≡ names_in bs ++ variable_names (int_variables (map global_view (drop i vs)))
no_variable bs vs i v h is k =
    ap (λ b. names_in bs ++ variable_names (if b then global_view v ∷ int_variables (map global_view (drop (i + 1) vs)) else int_variables (map global_view (drop (i + 1) vs)))) k
    ∙ ap (λ l. names_in bs ++ l) (sym (variables_step vs i v h is))

pub no_global : (bs : List (List ℕ)) (vs : List Global_) (i : ℕ) (all : List (List ℕ)) → length vs ≤ i → bs ++ variable_names (int_variables (map global_view (drop i vs))) ≡ all → bs ≡ all
no_global bs vs i all h k = none_more variables bs vs i all refl h k
