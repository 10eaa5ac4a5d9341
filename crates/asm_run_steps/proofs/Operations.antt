-- What operations do to a state, by what they do to its words and to the world.
use Rattle.std.proofs.Common.{◌≡◌, ℕ, suc, ◌+◌, ◌*◌, ◌≤◌, Bool, true, false, refl, sym, ap, ◌∙◌, arith}
use Rattle.std.specs.Prelude.{nat_le, if◌then◌else◌}
use Rattle.std.proofs.lemmas.Bool.Decides.{nat_tests}
use Rattle.session_lang.specs.Imports.{ImportAnswer, goes_on, ends}
use Rattle.session_lang.specs.Observation.{EndPlain}
use Rattle.asm_run_code.specs.Machine as code
use Rattle.asm_run_code.specs.Machine.{Codes, State, Came, going, halts, unpaid, writes, jumps, paid, pays, answers}
use Rattle.asm_run_steps.specs.Plain.{WordsPlain, with_word}
use Rattle.asm_run_steps.specs.Worlds.{WorldPlain, Asked, goes, stops, answered}
use Rattle.asm_run_steps.specs.declared.flow.Flow.TheVariants.{On, Off}
use Rattle.asm_run_steps.specs.declared.flow.Leaving.TheVariants.{Lost}
use Rattle.asm_run_steps.specs.States.{Callers, state_in}
use Rattle.asm_run_steps.specs.Flows.{came_of, jumped, Falls}

pub jumps_fall : (at to units : ℕ) → Falls at (jumped at to) units units
jumps_fall at to units = by (nat_le to at) (grind (arith, nat_tests))
  where
    by : (b : Bool) → (b ≡ true → to ≤ at) → Falls at (if b then On to else Off Lost) units units
    by true h = let e : to ≤ at = h refl in omega arith
    by false h = omega arith

-- the answer of a call of an import, whose word comes into a slot
abbrev came_of_asked : (function at : ℕ) → Callers → (first : ℕ) → WordsPlain → Asked → Came
came_of_asked function at callers first w (goes word v) = going (state_in function at callers (with_word w first word) v)
came_of_asked function at callers first w (stops e v) = halts e (state_in function at callers w v)

pub jumps_fall_where : (b : Bool) (at to units : ℕ) → Falls at (if b then jumped at to else On at) units units
jumps_fall_where true at to units = jumps_fall at to units
jumps_fall_where false at to units = omega arith

module _ (c : Codes) (e : EndPlain) (function at : ℕ) (callers : Callers) where
  pub writes_are : (w x : WordsPlain) (v : WorldPlain) (to word : ℕ) → x ≡ with_word w to word
      → writes (state_in function at callers w v) to word ≡ came_of c (On at) e (state_in function at callers x v)
  writes_are w x v to word is = ap (λ (y : WordsPlain). going (state_in function at callers y v)) (sym is)

  pub changes_are : (w : WordsPlain) (y z : WorldPlain) → z ≡ y → going (state_in function at callers w y) ≡ came_of c (On at) e (state_in function at callers w z)
  changes_are w y z is = ap (λ (u : WorldPlain). going (state_in function at callers w u)) (sym is)

  pub jumps_are : (w : WordsPlain) (v : WorldPlain) (to : ℕ) → jumps (state_in function at callers w v) to ≡ came_of c (jumped at to) e (state_in function at callers w v)
  jumps_are w v to = by (nat_le to at)
    where
      by : (b : Bool) → (if b then going (record (state_in function at callers w v) { at = to }) else code.lost) ≡ came_of c (if b then On to else Off Lost) e (state_in function at callers w v)
      by true = refl
      by false = refl

  -- where a slot's word is another word
  pub jumps_where : (w : WordsPlain) (v : WorldPlain) (b : Bool) (to : ℕ)
      → (if b then jumps (state_in function at callers w v) to else going (state_in function at callers w v)) ≡ came_of c (if b then jumped at to else On at) e (state_in function at callers w v)
  jumps_where w v true to = jumps_are w v to
  jumps_where w v false to = refl

  pub pays_are : (w : WordsPlain) (v y : WorldPlain) (next : State → Came) → v.units ≡ suc y.units → y ≡ record v { units = y.units }
      → pays (state_in function at callers w v) next ≡ next (state_in function at callers w y)
  pays_are w v y next one others =
      ap (λ u. paid u (state_in function at callers w v) next) one ∙ ap (λ (x : WorldPlain). next (state_in function at callers w x)) (sym others)

  pub unpaid_is : (w : WordsPlain) (v y : WorldPlain) (next : State → Came) → v.units ≡ 0 → y.units ≡ 0 → y ≡ record v { units = y.units }
      → pays (state_in function at callers w v) next ≡ unpaid (state_in function at callers w y)
  unpaid_is w v y next none still others =
      ap (λ u. paid u (state_in function at callers w v) next) none
      ∙ ap (λ u. unpaid (state_in function at callers w (record v { units = u }))) (none ∙ sym still)
      ∙ ap (λ (x : WorldPlain). unpaid (state_in function at callers w x)) (sym others)

  answers_are : (a : ImportAnswer) (first : ℕ) (w : WordsPlain) (v : WorldPlain) → answers a first (state_in function at callers w v) ≡ came_of_asked function at callers first w (answered a v)
  answers_are (goes_on g) first w v = refl
  answers_are (ends e) first w v = refl

  pub answers_halt : (a : ImportAnswer) (first : ℕ) (w : WordsPlain) (v y : WorldPlain) (ending : EndPlain) → stops ending y ≡ answered a v
      → answers a first (state_in function at callers w v) ≡ halts ending (state_in function at callers w y)
  answers_halt a first w v y ending is = answers_are a first w v ∙ ap (came_of_asked function at callers first w) (sym is)

  pub answers_go : (a : ImportAnswer) (first word : ℕ) (w x : WordsPlain) (v y : WorldPlain) → goes word y ≡ answered a v → x ≡ with_word w first word
      → answers a first (state_in function at callers w v) ≡ came_of c (On at) e (state_in function at callers x y)
  answers_go a first word w x v y is put = answers_are a first w v ∙ ap (came_of_asked function at callers first w) (sym is) ∙ writes_are w x y first word put
