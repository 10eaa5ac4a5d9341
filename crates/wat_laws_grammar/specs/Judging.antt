-- The verdict on a text, as a function. No contract of a public function names this.
use Rattle.std.specs.Prelude.{ℕ, zero, suc, pred, ◌+◌, List, [], ◌∷◌, Option, Some, None, Result, Ok, Err}
use Rattle.wasm_lang.specs.Modules.{WasmModule}
use Rattle.wat_lang.specs.declared.fault.Row.{Row}
use Rattle.wat_lang.specs.declared.fault.Row.TheVariants as rows
use Rattle.wat_lang.specs.Tokens.{Token, Front, gap, token, no_front, front_of, Reading, with_first}
use Rattle.wat_lang.specs.Grammar.{Marked}
use Rattle.wat_lang.specs.Modules.{module_of}
use Rattle.wat_lang.specs.Rows.{Refusal, rows_of, least}
use Rattle.wat_lang.specs.Texts.{outside_at, place_of}
use Rattle.wat_laws_grammar.specs.Machine.{run, fed, start}

-- what stands at the front, and what the bytes behind its first one read as, past so many
abbrev pub cut_by : ℕ → Front → (ℕ → Reading) → Reading
cut_by at (gap n) k = k (pred n)
cut_by at (token c n) k = with_first (record { class = c; at = at }) (k (pred n))
cut_by at no_front k = Err at

-- the tokens of the bytes from an offset on, past so many bytes
abbrev pub cut_text : (skip at : ℕ) → List ℕ → Reading
cut_text n at [] = Ok []
cut_text zero at (b ∷ bs) = cut_by at (front_of (b ∷ bs)) (λ n. cut_text n (at + 1) bs)
cut_text (suc n) at (b ∷ bs) = cut_text n (at + 1) bs

abbrev pub Judgement : Type 0
Judgement = Result WasmModule Refusal

abbrev pub refused : Row → ℕ → Judgement
refused row at = Err (record { row = row; at = at })

abbrev pub judge_rows : List Marked → Option Refusal → Judgement
judge_rows ms None = Ok (module_of ms)
judge_rows ms (Some r) = Err r

abbrev pub judge_marks : List ℕ → List Token → Option (List Marked) → Judgement
judge_marks text ts None = refused rows.Grammar (place_of text ts (fed start ts))
judge_marks text ts (Some ms) = judge_rows ms (least (rows_of ms))

abbrev pub judge_inside : List ℕ → List Token → Option ℕ → Judgement
judge_inside text ts None = judge_marks text ts (run start ts)
judge_inside text ts (Some at) = refused rows.OutsideInteger at

abbrev pub judge_reading : List ℕ → Reading → Judgement
judge_reading text (Err at) = refused rows.Token at
judge_reading text (Ok ts) = judge_inside text ts (outside_at ts)

abbrev pub judge : List ℕ → Judgement
judge text = judge_reading text (cut_text 0 0 text)
