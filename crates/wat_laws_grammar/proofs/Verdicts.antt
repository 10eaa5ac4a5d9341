-- A text says one module, or has one fault, which the function that judges it finds.
use Rattle.std.proofs.Common.{◌≡◌, ◌⊎◌, inl, inr, ℕ, List, [], ◌∷◌, Option, Some, None, Ok, Err, refl, sym, ap, ◌∙◌}
use Rattle.wasm_lang.specs.Modules.{WasmModule}
use Rattle.wat_lang.specs.declared.fault.Row.{Row}
use Rattle.wat_lang.specs.declared.fault.Row.TheVariants as rows
use Rattle.wat_lang.specs.Tokens.{Token, Reading, IsReading, HasTokens}
use Rattle.wat_lang.specs.Grammar.{Marked, IsFirstFault}
use Rattle.wat_lang.specs.Rows.{Refusal, rows_of, least}
use Rattle.wat_lang.specs.Texts.{outside_at, IsMarked, SaysModule, place_of, IsUngrammaticalAt, IsFault, a_bad_token, a_word_outside, a_break, a_refusal}
use Rattle.wat_laws_grammar.specs.Machine.{run, fed, start}
use Rattle.wat_laws_grammar.specs.Judging.{cut_text, Judgement, refused, judge_rows, judge_marks, judge_inside, judge_reading, judge}
use Rattle.wat_laws_grammar.proofs.Machine.{complete, sound}
use Rattle.wat_laws_grammar.proofs.First.{first_fault, one_place}
use Rattle.wat_laws_grammar.proofs.Readings.{reading_is_cut, cut_is_reading}

-- ---- what is said is judged so

read_as : (text : List ℕ) (r : Reading) → IsReading text r → judge text ≡ judge_reading text r
read_as text r h = ap (judge_reading text) (reading_is_cut h)

inside_as : (text : List ℕ) (ts : List Token) → HasTokens text ts → outside_at ts ≡ None → judge text ≡ judge_marks text ts (run start ts)
inside_as text ts h e = read_as text (Ok ts) h ∙ ap (judge_inside text ts) e

marked_as : (text : List ℕ) (ms : List Marked) → IsMarked text ms → judge text ≡ judge_rows ms (least (rows_of ms))
marked_as text ms h = inside_as text h.tokens h.is_reading h.is_inside ∙ ap (judge_marks text h.tokens) (complete h.is_grammatical)

pub module_is_judged : (text : List ℕ) (m : WasmModule) → SaysModule text m → judge text ≡ Ok m
module_is_judged text m h =
    marked_as text h.marks h.is_marked
    ∙ ap (λ (rs : List Refusal). judge_rows h.marks (least rs)) h.is_accepted
    ∙ ap (λ (n : WasmModule). let j : Judgement = Ok n in j) h.is_this

not_read : (ts : List Token) (k : ℕ) → IsFirstFault ts k → run start ts ≡ None
not_read ts k f = by (run start ts) refl
  where
    by : (x : Option (List Marked)) → run start ts ≡ x → run start ts ≡ None
    by None e = e
    by (Some ms) e = absurd (f.whole ms (sound start ts ms e))

break_is_judged : (text : List ℕ) (at : ℕ) → IsUngrammaticalAt text at → judge text ≡ refused rows.Grammar at
break_is_judged text at h =
    let none = not_read h.tokens h.token h.is_fault in
    let same : fed start h.tokens ≡ h.token = one_place h.tokens (fed start h.tokens) h.token (first_fault h.tokens none) h.is_fault in
    inside_as text h.tokens h.is_reading h.is_inside ∙ ap (judge_marks text h.tokens) none
    ∙ ap (λ k. refused rows.Grammar (place_of text h.tokens k)) same ∙ ap (refused rows.Grammar) (sym h.is_there)

pub fault_is_judged : (text : List ℕ) {row : Row} {at : ℕ} → IsFault text row at → judge text ≡ refused row at
fault_is_judged text (a_bad_token {at = at} h) = read_as text (Err at) h
fault_is_judged text (a_word_outside {at = at} h) = read_as text (Ok h.tokens) h.is_reading ∙ ap (judge_inside text h.tokens) h.is_first
fault_is_judged text (a_break {at = at} h) = break_is_judged text at h
fault_is_judged text (a_refusal {row = row} {at = at} h) = marked_as text h.marks h.is_marked ∙ ap (judge_rows h.marks) h.is_least

-- ---- what is judged is so

-- what a judgement says of the text
abbrev pub IsJust : List ℕ → Judgement → Type 0
IsJust text (Ok m) = SaysModule text m
IsJust text (Err r) = IsFault text r.row r.at

none_is_least : (rs : List Refusal) → least rs ≡ None → rs ≡ []
none_is_least [] e = refl
none_is_least (r ∷ rs) e = absurd cc

rows_true : (text : List ℕ) (ms : List Marked) → IsMarked text ms → IsJust text (judge_rows ms (least (rows_of ms)))
rows_true text ms h = by (least (rows_of ms)) refl
  where
    by : (x : Option Refusal) → least (rows_of ms) ≡ x → IsJust text (judge_rows ms x)
    by None e = record { marks = ms; is_marked = h; is_accepted = none_is_least (rows_of ms) e; is_this = refl }
    by (Some r) e = a_refusal (record { marks = ms; is_marked = h; is_least = e })

marks_true : (text : List ℕ) (ts : List Token) → HasTokens text ts → outside_at ts ≡ None → IsJust text (judge_marks text ts (run start ts))
marks_true text ts h i = by (run start ts) refl
  where
    by : (x : Option (List Marked)) → run start ts ≡ x → IsJust text (judge_marks text ts x)
    by None e = a_break (record { tokens = ts; is_reading = h; is_inside = i; token = fed start ts; is_fault = first_fault ts e; is_there = refl })
    by (Some ms) e = rows_true text ms (record { tokens = ts; is_reading = h; is_inside = i; is_grammatical = sound start ts ms e })

inside_true : (text : List ℕ) (ts : List Token) → HasTokens text ts → IsJust text (judge_inside text ts (outside_at ts))
inside_true text ts h = by (outside_at ts) refl
  where
    by : (x : Option ℕ) → outside_at ts ≡ x → IsJust text (judge_inside text ts x)
    by None e = marks_true text ts h e
    by (Some at) e = a_word_outside (record { tokens = ts; is_reading = h; is_first = e })

reading_true : (text : List ℕ) (r : Reading) → IsReading text r → IsJust text (judge_reading text r)
reading_true text (Err at) h = a_bad_token h
reading_true text (Ok ts) h = inside_true text ts h

pub judgement_is_true : (text : List ℕ) → IsJust text (judge text)
judgement_is_true text = reading_true text (cut_text 0 0 text) (cut_is_reading text)

-- ---- one verdict

pub some_verdict : (text : List ℕ) → ((m : WasmModule) × SaysModule text m) ⊎ ((row : Row) × (at : ℕ) × IsFault text row at)
some_verdict text = by (judge text) (judgement_is_true text)
  where
    by : (j : Judgement) → IsJust text j → ((m : WasmModule) × SaysModule text m) ⊎ ((row : Row) × (at : ℕ) × IsFault text row at)
    by (Ok m) h = inl (m, h)
    by (Err r) h = inr (r.row, r.at, h)

pub one_module : (text : List ℕ) (m n : WasmModule) → SaysModule text m → SaysModule text n → m ≡ n
one_module text m n h k = let e : (let j : Judgement = Ok m in j) ≡ Ok n = sym (module_is_judged text m h) ∙ module_is_judged text n k in cc

pub one_fault : (text : List ℕ) (r s : Row) (a b : ℕ) → IsFault text r a → IsFault text s b → (r ≡ s) × (a ≡ b)
one_fault text r s a b h k =
    let e : refused r a ≡ refused s b = sym (fault_is_judged text h) ∙ fault_is_judged text k in
    let same : (let x : Refusal = record { row = r; at = a } in x) ≡ record { row = s; at = b } = cc in
    (ap (λ (x : Refusal). x.row) same, ap (λ (x : Refusal). x.at) same)

pub not_both : (text : List ℕ) (m : WasmModule) (row : Row) (at : ℕ) → SaysModule text m → ¬ IsFault text row at
not_both text m row at h k = let e : (let j : Judgement = Ok m in j) ≡ refused row at = sym (module_is_judged text m h) ∙ fault_is_judged text k in absurd cc
