-- Numbers that are in their ranges.
use Rattle.std.proofs.Common.{◌≡◌, ℕ, zero, suc, ◌+◌, ◌-◌, ◌<◌, ◌≤◌, Bool, true, false, cond, List, [], ◌∷◌, ◌++◌, map, filter, length, get_or, take, drop, Option, Some, None, refl, sym, ap, ◌∙◌, not, append_assoc, append-nil}
use Rattle.std.proofs.lemmas.List.{map_more, drop_all}
use Rattle.std.proofs.lemmas.List.Sums.{take_while-cons}
use Rattle.std.specs.Prelude.{find}
use Rattle.wat_lang.specs.declared.parts.Space.{Space}
use Rattle.wat_lang.specs.declared.fault.Row.TheVariants as rows
use Rattle.wat_lang.specs.Tokens.{Token}
use Rattle.wat_lang.specs.Numbers.{number_of}
use Rattle.wat_lang.specs.Grammar.{Mark, uses, Marked, marked}
use Rattle.wat_lang.specs.Names.{Names, text_of, uses_in, first_with}
use Rattle.wat_lang.specs.Modules.{first_used, immediates_in, is_instruction}
use Rattle.wat_lang.specs.Rows.{where_holds, number_rows, is_bad_number, is_out_32}
use Rattle.wat_marks.specs.declared.marked.MarkedToken.{MarkedToken}
use Rattle.wat_marks.specs.Views.{marked_of}
use Rattle.wat_read_tokens.specs.Marks.{marks_of}
use Rattle.wat_grammar.specs.Views.{mark_of}
use Rattle.wat_read_tokens.proofs.Steps.{front}
use Rattle.wat_read_tokens.proofs.Tests.{first_fits}
use Rattle.wat_read_bodies.specs.Naturals.{number_named}

use_at : (s : Space) (k : Mark) (t : Token) → uses_in s k ≡ true → is_bad_number (marked k t) ≡ false → is_out_32 (number_of (text_of (marked k t))) ≡ false
use_at s (uses r) t h g = g
use_at s k t h g = absurd cc

pub use_fits : (s : Space) (m : Marked) → uses_in s m.mark ≡ true → is_bad_number m ≡ false → is_out_32 (number_of (text_of m)) ≡ false
use_fits s m h g = use_at s m.mark m.token h g

-- ---- the first number

by_first : (f : Marked → ℕ) → Option Marked → ℕ
by_first f None = 0
by_first f (Some m) = f m

first_of : (f : Marked → ℕ) (p : Marked → Bool) (ms : List Marked) → get_or (map f (filter p ms)) 0 0 ≡ by_first f (find p ms)
unfolding by_first
first_of f p [] = refl
first_of f p (m ∷ ms) = by (p m) (first_of f p ms)
  where
    by : (b : Bool) → get_or (map f (filter p ms)) 0 0 ≡ by_first f (find p ms) → get_or (map f (cond b (m ∷ filter p ms) (filter p ms))) 0 0 ≡ by_first f (cond b (Some m) (find p ms))
    by true h = refl
    by false h = h

pub first_number : (names : Names) (s : Space) (ms : List Marked) (m : Marked) (n : ℕ) → Some m ≡ first_with (uses_in s) ms → n ≡ number_named names m → n ≡ first_used (λ _. names) s ms
unfolding by_first
first_number names s ms m n e h = h ∙ ap (by_first (number_named names)) e ∙ sym (first_of (number_named names) (λ (k : Marked). uses_in s k.mark) ms)

pub no_number : (names : Names) (s : Space) (ms : List Marked) → None ≡ first_with (uses_in s) ms → 0 ≡ first_used (λ _. names) s ms
unfolding by_first
no_number names s ms e = ap (by_first (number_named names)) e ∙ sym (first_of (number_named names) (λ (k : Marked). uses_in s k.mark) ms)

-- ---- parts of a list

one_more : (ts : List MarkedToken) (n : ℕ) (t : MarkedToken) (xs : List Marked) → n < length ts → t ≡ get_or ts n t → marks_of (take n ts) ++ marked_of t ∷ xs ≡ marks_of (take (n + 1) ts) ++ xs
one_more ts n t xs lt is =
    sym (append_assoc (marks_of (take n ts)) (marked_of t ∷ []) xs)
    ∙ ap (λ (y : MarkedToken). (marks_of (take n ts) ++ marked_of y ∷ []) ++ xs) is
    ∙ ap (λ ys. ys ++ xs) (sym (map_more marked_of ts n t lt))

dropped : (k : ℕ) (ts : List MarkedToken) → number_rows (marks_of ts) ≡ [] → number_rows (marks_of (drop k ts)) ≡ []
dropped zero ts h = h
dropped (suc k) [] h = refl
dropped (suc k) (t ∷ ts) h = dropped k ts (first_fits (marked_of t) (marks_of ts) h).1

pub taken : (k : ℕ) (ts : List MarkedToken) → number_rows (marks_of ts) ≡ [] → number_rows (marks_of (take k ts)) ≡ []
taken zero ts h = refl
taken (suc k) [] h = refl
taken (suc k) (t ∷ ts) h =
    let parts = first_fits (marked_of t) (marks_of ts) h in
    ap (λ (b : Bool). where_holds b rows.Number (marked_of t).token.at ++ number_rows (marks_of (take k ts))) parts.0 ∙ taken k ts parts.1

pub rest_good : (k : ℕ) (ts : List MarkedToken) → number_rows (marks_of ts) ≡ [] → number_rows (marks_of (take (length ts - k) (drop k ts))) ≡ []
rest_good k ts h = taken (length ts - k) (drop k ts) (dropped k ts h)

-- ---- what stands before the next instruction

immediate_front : (m : Marked) (ms : List Marked) (b : Bool) → is_instruction m.mark ≡ b → immediates_in (m ∷ ms) ≡ cond (not b) (m ∷ immediates_in ms) []
immediate_front m ms b e = take_while-cons (λ (k : Marked). not (is_instruction k.mark)) m ms ∙ ap (λ (t : Bool). cond (not t) (m ∷ immediates_in ms) []) e

pub none_before : (ts : List MarkedToken) (n : ℕ) (t : MarkedToken) → n < length ts → t ≡ get_or ts n t → is_instruction (mark_of t.mark) ≡ true → marks_of (take n ts) ++ immediates_in (marks_of (drop n ts)) ≡ marks_of (take n ts)
none_before ts n t lt is e =
    ap (λ xs. marks_of (take n ts) ++ immediates_in (marks_of xs)) (front ts n t lt is)
    ∙ ap (λ ms. marks_of (take n ts) ++ ms) (immediate_front (marked_of t) (marks_of (drop (n + 1) ts)) true e) ∙ append-nil (marks_of (take n ts))

pub one_before : (ts : List MarkedToken) (n : ℕ) (t : MarkedToken) → n < length ts → t ≡ get_or ts n t → is_instruction (mark_of t.mark) ≡ false
    → marks_of (take (n + 1) ts) ++ immediates_in (marks_of (drop (n + 1) ts)) ≡ marks_of (take n ts) ++ immediates_in (marks_of (drop n ts))
one_before ts n t lt is e =
    sym (one_more ts n t (immediates_in (marks_of (drop (n + 1) ts))) lt is)
    ∙ ap (λ ms. marks_of (take n ts) ++ ms) (sym (immediate_front (marked_of t) (marks_of (drop (n + 1) ts)) false e))
    ∙ ap (λ xs. marks_of (take n ts) ++ immediates_in (marks_of xs)) (sym (front ts n t lt is))

pub all_before : (ts : List MarkedToken) (n : ℕ) → length ts ≤ n → marks_of (take n ts) ++ immediates_in (marks_of (drop n ts)) ≡ marks_of (take n ts)
all_before ts n le = ap (λ xs. marks_of (take n ts) ++ immediates_in (marks_of xs)) (drop_all n ts le) ∙ append-nil (marks_of (take n ts))
