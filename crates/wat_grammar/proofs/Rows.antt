-- The first row that a token begins, and the row of an instruction found by its name.
use Rattle.std.proofs.Common.{◌≡◌, ℕ, Bool, true, false, ◌&&◌, ◌||◌, List, [], ◌∷◌, ◌++◌, Option, Some, None, is_none, option_map, option_and_then, bytes_eq, cond, if◌then◌else◌, refl, sym, ap, ◌∙◌}
use Rattle.std.specs.Map.{lookup}
use Rattle.std.proofs.lemmas.Bool.{and_parts}
use Rattle.std.proofs.lemmas.Slice.Eq.{bytes_eq-Decides}
use Rattle.wasm_lang.specs.Instructions.{Instruction}
use Rattle.wat_lang.specs.declared.parts.Rule.{Rule}
use Rattle.wat_lang.specs.declared.parts.Rule.TheVariants as rules
use Rattle.wat_lang.specs.Tokens.{Class, opens, closes, string, atom}
use Rattle.wat_lang.specs.Words.{instruction_names, form_named}
use Rattle.wat_lang.specs.Grammar as grammar
use Rattle.wat_lang.specs.Grammar.{Item, Row, meets, rows, may_end, begins_instruction, instruction_row, instruction_rows}
use Rattle.wat_laws_grammar.specs.Machine.{Taken, taken, if_true, pick, pick_by, by_row, feed}
use Rattle.wat_grammar.specs.Views.{next_in, next_instruction, behind_if, is_code, over}

-- ---- the machine's step

abbrev or_else : Option Taken → Option Taken → Option Taken
or_else others (Some t) = Some t
or_else others None = others

picked_next : (is : List Item) (others : Option Taken) (ws : List Row) (c : Class) → by_row is others (pick ws c) ≡ or_else others (over is (next_in ws c))
picked_next is others [] c = refl
picked_next is others (w ∷ ws) c = by (picked_next is others ws c) (meets w.want c)
  where
    by : by_row is others (pick ws c) ≡ or_else others (over is (next_in ws c)) → (t : Bool) → by_row is others (pick_by w (pick ws c) t) ≡ or_else others (over is (if t then Some (taken w.mark w.next) else next_in ws c))
    by below true = refl
    by below false = below

-- the top of the machine gives way to what a token begins, or goes on below a rule that may end
pub feeds_begun : (r : Rule) (is : List Item) (c : Class) (t : Taken) → over is (next_in (rows r) c) ≡ Some t → feed (grammar.rule r ∷ is) c ≡ Some t
feeds_begun r is c t e = picked_next is (if_true (feed is c) (may_end r)) (rows r) c ∙ ap (or_else (if_true (feed is c) (may_end r))) e

pub feeds_below : (r : Rule) (is : List Item) (c : Class) → over is (next_in (rows r) c) ≡ None → may_end r ≡ true → feed (grammar.rule r ∷ is) c ≡ feed is c
feeds_below r is c e m = picked_next is (if_true (feed is c) (may_end r)) (rows r) c ∙ ap (or_else (if_true (feed is c) (may_end r))) e ∙ ap (if_true (feed is c)) m

pub feeds_nothing : (r : Rule) (is : List Item) (c : Class) → over is (next_in (rows r) c) ≡ None → may_end r ≡ false → feed (grammar.rule r ∷ is) c ≡ None
feeds_nothing r is c e m = picked_next is (if_true (feed is c) (may_end r)) (rows r) c ∙ ap (or_else (if_true (feed is c) (may_end r))) e ∙ ap (if_true (feed is c)) m

-- ---- instructions by their names

-- no name of a later instruction is that of one which begins none
abbrev clean : List (List ℕ × Instruction) → Bool
clean [] = true
clean (e ∷ es) = (begins_instruction e.1 || is_none (next_in (instruction_rows es) (atom e.0))) && clean es

names_clean : clean instruction_names ≡ true
names_clean = refl

is_none_is : {X : Type 0} (x : Option X) → is_none x ≡ true → x ≡ None
is_none_is None e = refl
is_none_is (Some x) e = absurd cc

same_test : (xs ys : List ℕ) → bytes_eq xs ys ≡ bytes_eq ys xs
same_test xs ys = by (bytes_eq xs ys) (bytes_eq ys xs) refl refl
  where
    by : (t u : Bool) → bytes_eq xs ys ≡ t → bytes_eq ys xs ≡ u → t ≡ u
    by true true et eu = refl
    by false false et eu = refl
    by true false et eu = absurd (let f : false ≡ true = sym eu ∙ (bytes_eq-Decides ys xs).1 (sym ((bytes_eq-Decides xs ys).0 et)) in cc)
    by false true et eu = absurd (let f : false ≡ true = sym et ∙ (bytes_eq-Decides xs ys).1 (sym ((bytes_eq-Decides ys xs).0 eu)) in cc)

abbrev rows_by : Bool → List ℕ × Instruction → List Row → List Row
rows_by true e ws = instruction_row e ∷ ws
rows_by false e ws = ws

found_row : (word : List ℕ) (es : List (List ℕ × Instruction)) → clean es ≡ true → next_in (instruction_rows es) (atom word) ≡ option_and_then next_instruction (lookup (bytes_eq word) es)
found_row word [] k = refl
found_row word (e ∷ es) k =
    let parts = and_parts (begins_instruction e.1 || is_none (next_in (instruction_rows es) (atom e.0))) (clean es) k in
    by (found_row word es parts.1) (begins_instruction e.1) (bytes_eq word e.0) refl refl parts.0
  where
    then_word : (t u : Bool) → t ≡ u → (if t then Some (taken (grammar.an_instruction e.1) (grammar.immediates e.1 ++ grammar.rule rules.Code ∷ [])) else next_in (instruction_rows es) (atom word))
        ≡ (if u then Some (taken (grammar.an_instruction e.1) (grammar.immediates e.1 ++ grammar.rule rules.Code ∷ [])) else next_in (instruction_rows es) (atom word))
    then_word t u h = ap (λ v. if v then Some (taken (grammar.an_instruction e.1) (grammar.immediates e.1 ++ grammar.rule rules.Code ∷ [])) else next_in (instruction_rows es) (atom word)) h

    begun : (b : Bool) → begins_instruction e.1 ≡ b → next_in (elim b [ true ↦ instruction_row e ∷ instruction_rows es | false ↦ instruction_rows es ]) (atom word) ≡ next_in (instruction_rows (e ∷ es)) (atom word)
    begun b eb = ap (λ v. next_in (elim v [ true ↦ instruction_row e ∷ instruction_rows es | false ↦ instruction_rows es ]) (atom word)) (sym eb)

    by : next_in (instruction_rows es) (atom word) ≡ option_and_then next_instruction (lookup (bytes_eq word) es) → (b t : Bool) → begins_instruction e.1 ≡ b → bytes_eq word e.0 ≡ t
        → b || is_none (next_in (instruction_rows es) (atom e.0)) ≡ true → next_in (instruction_rows (e ∷ es)) (atom word) ≡ option_and_then next_instruction (lookup (bytes_eq word) (e ∷ es))
    by below true true eb et h =
        sym (begun true eb) ∙ then_word (bytes_eq e.0 word) true (same_test e.0 word ∙ et)
        ∙ sym (ap (λ v. option_map (λ is. taken (grammar.an_instruction e.1) is) (behind_if e.1 v)) eb)
        ∙ sym (ap (λ v. option_and_then next_instruction (cond v (Some e.1) (lookup (bytes_eq word) es))) et)
    by below true false eb et h =
        sym (begun true eb) ∙ then_word (bytes_eq e.0 word) false (same_test e.0 word ∙ et) ∙ below
        ∙ sym (ap (λ v. option_and_then next_instruction (cond v (Some e.1) (lookup (bytes_eq word) es))) et)
    by below false true eb et h =
        let same : word ≡ e.0 = (bytes_eq-Decides word e.0).0 et in
        sym (begun false eb) ∙ ap (λ (xs : List ℕ). next_in (instruction_rows es) (atom xs)) same ∙ is_none_is (next_in (instruction_rows es) (atom e.0)) h
        ∙ sym (ap (λ v. option_map (λ is. taken (grammar.an_instruction e.1) is) (behind_if e.1 v)) eb)
        ∙ sym (ap (λ v. option_and_then next_instruction (cond v (Some e.1) (lookup (bytes_eq word) es))) et)
    by below false false eb et h =
        sym (begun false eb) ∙ below
        ∙ sym (ap (λ v. option_and_then next_instruction (cond v (Some e.1) (lookup (bytes_eq word) es))) et)

pub named_row : (word : List ℕ) → next_in (instruction_rows instruction_names) (atom word) ≡ option_and_then next_instruction (form_named word)
unfolding form_named
named_row word = found_row word instruction_names names_clean

-- only an atom begins an instruction
pub no_word : (c : Class) → ((word : List ℕ) → meets (grammar.a_word word) c ≡ false) → (es : List (List ℕ × Instruction)) → next_in (instruction_rows es) c ≡ None
no_word c h [] = refl
no_word c h (e ∷ es) = by (no_word c h es) (begins_instruction e.1)
  where
    by : next_in (instruction_rows es) c ≡ None → (b : Bool) → next_in (elim b [ true ↦ instruction_row e ∷ instruction_rows es | false ↦ instruction_rows es ]) c ≡ None
    by below true = ap (λ t. if t then Some (taken (grammar.an_instruction e.1) (grammar.immediates e.1 ++ grammar.rule rules.Code ∷ [])) else next_in (instruction_rows es) c) (h e.0) ∙ below
    by below false = below

pub none_opens : next_in (instruction_rows instruction_names) opens ≡ None
none_opens = no_word opens (λ w. refl) instruction_names

pub none_closes : next_in (instruction_rows instruction_names) closes ≡ None
none_closes = no_word closes (λ w. refl) instruction_names

pub none_text : next_in (instruction_rows instruction_names) (string []) ≡ None
none_text = no_word (string []) (λ w. refl) instruction_names

pub code_rows : (r : Rule) → is_code r ≡ true → rows r ≡ instruction_rows instruction_names
unfolding rows
code_rows rules.Grammar h = absurd cc
code_rows rules.Name h = absurd cc
code_rows (rules.Bound x) h = absurd cc
code_rows rules.Fields h = absurd cc
code_rows rules.Field h = absurd cc
code_rows rules.Described h = absurd cc
code_rows rules.Exported h = absurd cc
code_rows (rules.Heads x y) h = absurd cc
code_rows (rules.Head x y) h = absurd cc
code_rows (rules.Types x) h = absurd cc
code_rows (rules.More x) h = absurd cc
code_rows rules.TableEnd h = absurd cc
code_rows rules.Maximum h = absurd cc
code_rows rules.Kind h = absurd cc
code_rows rules.Constant h = absurd cc
code_rows rules.Functions h = absurd cc
code_rows rules.Labels h = absurd cc
code_rows rules.Strings h = absurd cc
code_rows rules.FuncWord h = absurd cc
code_rows rules.Code h = refl
code_rows rules.Label h = absurd cc
code_rows rules.BlockResult h = absurd cc
code_rows rules.Arms h = absurd cc
code_rows rules.Offset h = absurd cc
code_rows rules.Align h = absurd cc
