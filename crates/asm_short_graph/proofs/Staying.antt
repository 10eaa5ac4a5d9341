-- What is marked is what stays.
use Rattle.std.proofs.Common.{◌≡◌, ℕ, suc, ◌+◌, ◌≤◌, Bool, true, false, List, [], ◌∷◌, map, length, get_or, drop, Some, refl, sym, ap, ◌∙◌, subst, arith}
use Rattle.std.proofs.lemmas.Bool.{false≢true}
use Rattle.std.proofs.lemmas.List.{get_or-drop, length-append, length-map}
use Rattle.std.proofs.lemmas.Option.{slice_get_within}
use Rattle.std.specs.Prelude.{if◌then◌else◌, slice_get}
use Rattle.asm_lang.specs.Modules.{Function, Table, Module}
use Rattle.asm_lang_valid.specs.Refusal.{IsAccepted}
use Rattle.asm_short_lang.specs.Reached.{IsReached, IsEntered, Keeps, none, kept, left_out}
use Rattle.asm_laws_short.proofs.Rows.{Says, accepted_says}
use Rattle.graph_reach.specs.Marked.{is_marked}
use Rattle.asm_short_graph.specs.Graphs.{node_of, function_links, table_links}
use Rattle.asm_short_graph.specs.Marks.{AreMarks}
use Rattle.asm_short_graph.specs.Picked.{picked}
use Rattle.asm_short_graph.proofs.Places.{one_there}
use Rattle.asm_short_graph.proofs.Graph.{Stands, a_function_there, a_table_there, function_node, table_node, stands, node_reached, table_node_reached}

no_marks : {A : Type 0} (xs : List A) → picked [] xs ≡ []
no_marks [] = refl
no_marks (x ∷ xs) = refl

marked_stay : {A : Type 0} (P : A → Type 0) (xs : List A) (marks : List Bool) → ((i : ℕ) (x : A) → slice_get xs i ≡ Some x → get_or marks i false ≡ true → P x) → ((i : ℕ) (x : A) → slice_get xs i ≡ Some x → P x → get_or marks i false ≡ true) → Keeps P xs (picked marks xs)
marked_stay P [] marks s c = none
marked_stay P (x ∷ xs) [] s c = left_out (λ p. false≢true (c 0 x refl p)) (subst (Keeps P xs) (no_marks xs) (marked_stay P xs [] (λ i y h e. absurd (false≢true e)) (λ i y h p. c (suc i) y h p)))
marked_stay P (x ∷ xs) (b ∷ bs) s c = by b refl (marked_stay P xs bs (λ i y h e. s (suc i) y h e) (λ i y h p. c (suc i) y h p))
  where
    by : (a : Bool) → b ≡ a → Keeps P xs (picked bs xs) → Keeps P (x ∷ xs) (if a then x ∷ picked bs xs else picked bs xs)
    by true e rest = kept (s 0 x refl e) rest
    by false e rest = left_out (λ p. false≢true (sym e ∙ c 0 x refl p)) rest

pub functions_within : (m : Module) (marks : List Bool) → AreMarks m marks → length m.functions ≤ length marks
functions_within m marks are =
    let size = are.size in
    let both = length-append (map (function_links m) m.functions) (map (table_links m) m.tables) in
    let front = length-map m.functions (function_links m) in
    omega arith

module _ (m : Module) (marks : List Bool) (accepted : IsAccepted m) (are : AreMarks m marks) where
  says : Says m
  says = accepted_says m accepted

  marked_function : (i : ℕ) (f : Function) → slice_get m.functions i ≡ Some f → is_marked marks i ≡ true → IsReached m f
  marked_function i f h mark = by (stands m says i (are.sound i mark))
    where
      by : Stands m i → IsReached m f
      by (a_function_there g l r) = subst (IsReached m) (one_there m.functions i g f l h) r
      by (a_table_there t k e l x) = absurd (let low = slice_get_within m.functions i f h in omega arith)

  reached_function : (i : ℕ) (f : Function) → slice_get m.functions i ≡ Some f → IsReached m f → is_marked marks i ≡ true
  reached_function i f h r = ap (is_marked marks) (sym (function_node m says i f h)) ∙ are.complete (node_of m f.name) (node_reached m says r)

  marked_table : (k : ℕ) (t : Table) → slice_get m.tables k ≡ Some t → is_marked marks (length m.functions + k) ≡ true → IsEntered m t
  marked_table k t h mark = by (stands m says (length m.functions + k) (are.sound (length m.functions + k) mark))
    where
      by : Stands m (length m.functions + k) → IsEntered m t
      by (a_function_there g l r) = absurd (let low = slice_get_within m.functions (length m.functions + k) g l in omega arith)
      by (a_table_there u j e l x) = let same : j ≡ k = omega arith in subst (IsEntered m) (one_there m.tables k u t (ap (slice_get m.tables) (sym same) ∙ l) h) x

  entered_table : (k : ℕ) (t : Table) → slice_get m.tables k ≡ Some t → IsEntered m t → is_marked marks (length m.functions + k) ≡ true
  entered_table k t h x = ap (is_marked marks) (sym (table_node m says k t h)) ∙ are.complete (node_of m t.name) (table_node_reached m says t x)

  pub functions_kept : Keeps (IsReached m) m.functions (picked marks m.functions)
  functions_kept = marked_stay (IsReached m) m.functions marks marked_function reached_function

  pub tables_kept : Keeps (IsEntered m) m.tables (picked (drop (length m.functions) marks) m.tables)
  tables_kept =
      let at : (k : ℕ) → get_or (drop (length m.functions) marks) k false ≡ get_or marks (length m.functions + k) false = λ k. get_or-drop (length m.functions) marks k false in
      marked_stay (IsEntered m) m.tables (drop (length m.functions) marks) (λ k t h e. marked_table k t h (sym (at k) ∙ e)) (λ k t h x. at k ∙ entered_table k t h x)
