-- What one token more adds to the rows of its kind.
use Rattle.std.proofs.Common.{◌≡◌, ℕ, ◌+◌, ◌<◌, ◌≤◌, Bool, true, false, ◌&&◌, not, ◌↔◌, List, [], ◌∷◌, ◌++◌, length, get_or, drop, refl, sym, ap, ◌∙◌, append-nil}
use Rattle.std.proofs.lemmas.Grind.{flat_map-append}
use Rattle.std.proofs.lemmas.List.{at_drop_all}
use Rattle.std.proofs.lemmas.List.Elements.{filter-append}
use Rattle.std.specs.Prelude.{IsTrue, nat_lt, if◌then◌else◌}
use Rattle.std.specs.List.{flat_map, filter}
use Rattle.std.specs.Str.{is_utf8}
use Rattle.wasm_lang.specs.Limits.{most_entries}
use Rattle.wat_lang.specs.declared.fault.Row.TheVariants as rows
use Rattle.wat_lang.specs.Grammar.{Marked}
use Rattle.wat_lang.specs.Names.{text_of}
use Rattle.wat_lang.specs.Numbers.{number_of}
use Rattle.wat_lang.specs.Modules.{natural_or_0}
use Rattle.wat_lang.specs.Rows.{Refusal, where_holds, is_bad_number, number_rows, is_name, utf8_rows, is_table_minimum, entry_rows}
use Rattle.wat_marks.specs.declared.marked.MarkedToken.{MarkedToken}
use Rattle.wat_marks.specs.Views.{marked_of}
use Rattle.wat_read_tokens.specs.Marks.{marks_of}
use Rattle.wat_read_tokens.proofs.Steps.{front}
use Rattle.wat_read_refusals.specs.Single.{number_row, name_row, entries_row}
use Rattle.wat_read_refusals.proofs.Joins.{chosen_front}

chosen_more : {X : Type 0} (p : X → Bool) (f : X → List Refusal) (xs : List X) (x : X) → flat_map f (filter p (xs ++ x ∷ [])) ≡ flat_map f (filter p xs) ++ (if p x then f x else [])
chosen_more p f xs x =
    ap (flat_map f) (filter-append p xs (x ∷ [])) ∙ flat_map-append f (filter p xs) (filter p (x ∷ []))
    ∙ ap (λ (rs : List Refusal). flat_map f (filter p xs) ++ rs) (chosen_front p f x [] ∙ append-nil (if p x then f x else []))

pub number_more : (ms : List Marked) (m : Marked) → number_rows (ms ++ m ∷ []) ≡ number_rows ms ++ number_row m
number_more ms m = flat_map-append number_row ms (m ∷ []) ∙ ap (λ (rs : List Refusal). number_rows ms ++ rs) (append-nil (number_row m))

pub utf8_more : (ms : List Marked) (m : Marked) → utf8_rows (ms ++ m ∷ []) ≡ utf8_rows ms ++ name_row m
utf8_more ms m = chosen_more (λ (n : Marked). is_name n.mark) (λ (n : Marked). where_holds (not (is_utf8 (text_of n))) rows.Utf8 n.token.at) ms m

pub entries_more : (ms : List Marked) (m : Marked) → entry_rows (ms ++ m ∷ []) ≡ entry_rows ms ++ entries_row m
entries_more ms m =
    chosen_more (λ (n : Marked). is_table_minimum n.mark) (λ (n : Marked). where_holds (nat_lt most_entries (natural_or_0 (number_of (text_of n)))) rows.Limit n.token.at) ms m

-- ---- numbers that are all in their range

abbrev pub all_fit : List Marked → Bool
all_fit [] = true
all_fit (m ∷ ms) = not (is_bad_number m) && all_fit ms

none_bad : (ms : List Marked) → all_fit ms ≡ true → number_rows ms ≡ []
none_bad [] e = refl
none_bad (m ∷ ms) e = by (none_bad ms) (is_bad_number m) e
  where
    by : (all_fit ms ≡ true → number_rows ms ≡ []) → (b : Bool) → (not b && all_fit ms) ≡ true → where_holds b rows.Number m.token.at ++ number_rows ms ≡ []
    by below true f = absurd cc
    by below false f = below f

none_out : (ms : List Marked) → number_rows ms ≡ [] → all_fit ms ≡ true
none_out [] e = refl
none_out (m ∷ ms) e = by (none_out ms) (is_bad_number m) e
  where
    by : (number_rows ms ≡ [] → all_fit ms ≡ true) → (b : Bool) → where_holds b rows.Number m.token.at ++ number_rows ms ≡ [] → (not b && all_fit ms) ≡ true
    by below true f = absurd cc
    by below false f = below f

pub fit_told : (b : Bool) (ms : List Marked) → b ≡ all_fit ms → IsTrue b ↔ (number_rows ms ≡ [])
fit_told b ms e = (λ t. none_bad ms (sym e ∙ t), λ n. e ∙ none_out ms n)

and_assoc : (a b c : Bool) → ((a && b) && c) ≡ (a && (b && c))
and_assoc true b c = refl
and_assoc false b c = refl

pub fit_next : (ts : List MarkedToken) (i : ℕ) (t : MarkedToken) (fit next whole : Bool) → i < length ts → t ≡ get_or ts i t → next ≡ (fit && not (is_bad_number (marked_of t)))
    → (fit && all_fit (marks_of (drop i ts))) ≡ whole → (next && all_fit (marks_of (drop (i + 1) ts))) ≡ whole
fit_next ts i t fit next whole lt is e h =
    let rest = all_fit (marks_of (drop (i + 1) ts)) in
    ap (λ (b : Bool). b && rest) e ∙ and_assoc fit (not (is_bad_number (marked_of t))) rest
    ∙ ap (λ (xs : List MarkedToken). fit && all_fit (marks_of xs)) (sym (front ts i t lt is)) ∙ h

and_true : (b : Bool) → b ≡ (b && true)
and_true true = refl
and_true false = refl

pub fit_all : (ts : List MarkedToken) (i : ℕ) (fit : Bool) → length ts ≤ i → (fit && all_fit (marks_of (drop i ts))) ≡ all_fit (marks_of ts) → IsTrue fit ↔ (number_rows (marks_of ts) ≡ [])
fit_all ts i fit le h =
    fit_told fit (marks_of ts) (and_true fit ∙ ap (λ (b : Bool). fit && b) (sym (at_drop_all (λ (xs : List MarkedToken). all_fit (marks_of xs)) ts i le)) ∙ h)
