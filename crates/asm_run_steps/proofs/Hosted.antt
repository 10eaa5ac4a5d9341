-- The beginning of a call of the host.
use Rattle.std.proofs.Common.{◌≡◌, ℕ, suc, ◌+◌, List, [], ◌∷◌, ◌++◌, length, Option, Some, None, refl, sym, ap, ◌∙◌, append_assoc, arith}
use Rattle.std.proofs.lemmas.List.{append-nil, length_push}
use Rattle.std.specs.Prelude.{slice_get}
use Rattle.asm_run_code.specs.Slots.{put, put_all}
use Rattle.asm_run_code.specs.Machine.{Flat, Codes, State, Came, paid, enters}
use Rattle.asm_run_code.specs.Sessions.{begins}
use Rattle.asm_run_steps.specs.Plain.{WordsPlain, with_words}
use Rattle.asm_run_steps.specs.Worlds.{WorldPlain}
use Rattle.asm_run_steps.proofs.Slots.{put_end}
use Rattle.asm_run_steps.specs.States.{Callers, state_in}

put_all_end : (vs ws : List ℕ) (i : ℕ) → i ≡ length ws → put_all ws i vs ≡ ws ++ vs
unfolding put_all
put_all_end [] ws i h = sym (append-nil ws)
put_all_end (v ∷ vs) ws i h =
    let next : suc i ≡ length (ws ++ v ∷ []) = omega (arith, h, length_push ws v) in
    ap (λ us. put_all us (suc i) vs) (put_end ws i v h) ∙ put_all_end vs (ws ++ v ∷ []) (suc i) next ∙ append_assoc ws (v ∷ []) vs

-- words from slot 0 on, where there were none
pub words_given : (w x : WordsPlain) (args : List ℕ) → w ≡ record { all = []; base = 0 } → x ≡ with_words w 0 args → x ≡ record { all = args; base = 0 }
words_given w x args none is =
    let made : List ℕ → WordsPlain = λ ws. record { all = ws; base = 0 } in
    is ∙ ap (λ (y : WordsPlain). with_words y 0 args) none ∙ ap made (put_all_end args [] 0 refl)

enters_anew : (o : Option Flat) (function fn at : ℕ) (cs : Callers) (w : WordsPlain) (y : WorldPlain) (args : List ℕ)
    → enters o function 0 [] (record (state_in fn at cs w y) { words = args }) ≡ enters o function 0 [] (state_in fn at [] (record { all = args; base = 0 }) y)
enters_anew None function fn at cs w y args = refl
enters_anew (Some f) function fn at cs w y args = refl

-- a unit is taken, and nothing is left of an earlier call
pub host_begins : (c : Codes) (function fn at : ℕ) (cs ds : Callers) (w x : WordsPlain) (v y : WorldPlain) (args : List ℕ) → v.units ≡ suc y.units → y ≡ record v { units = y.units }
    → x ≡ record { all = args; base = 0 } → ds ≡ []
    → begins c function args (state_in fn at cs w v) ≡ enters (slice_get c.functions function) function x.base ds (state_in fn at ds x y)
host_begins c function fn at cs ds w x v y args one others given none =
    let o = slice_get c.functions function in
    let next : State → Came = λ t. enters o function 0 [] (record t { words = args }) in
    ap (λ u. paid u (state_in fn at cs w v) next) one
    ∙ ap (λ (z : WorldPlain). next (state_in fn at cs w z)) (sym others)
    ∙ enters_anew o function fn at cs w y args
    ∙ ap (λ (es : Callers). enters o function 0 es (state_in fn at es (record { all = args; base = 0 }) y)) (sym none)
    ∙ ap (λ (z : WordsPlain). enters o function z.base ds (state_in fn at ds z y)) (sym given)
