-- Surroundings go round what is driven, and keep what goes no further.
use Rattle.std.proofs.Common.{◌≡◌, ℕ, zero, suc, List, [], ◌∷◌, Some, None, refl, ap, ◌∙◌}
use Rattle.sem_words.specs.declared.word.Word.TheVariants.{W32, W64}
use Rattle.session_lang.specs.Observation.{trapped}
use Rattle.wasm_lang.specs.Modules.{WasmModule}
use Rattle.wasm_lang_exec.specs.Plain.{goes, traps, sticks}
use Rattle.wasm_lang_exec.specs.Reductions.{Label, Frame}
use Rattle.wasm_laws_drive.specs.Drive.{State, Outcome}
use Rattle.wasm_laws_drive.specs.Equations.{pay_from}
use Rattle.wasm_laws_drive.proofs.Driving.{through_label, through_frame}
use Rattle.wasm_laws_drive.specs.Contexts.{Surrounding, in_label, in_frame, closed}
use Rattle.wasm_laws_drive.specs.ContextLaws.{ThroughSurroundings, EndsStay, StuckStays, SpentStays, PaidInside, NumberInside, ValuesInside, EffectInside, ChoiceInside}

pub through_surroundings : ThroughSurroundings
through_surroundings m [] n c locals s = refl
through_surroundings m (in_label values arity continuation code ∷ around) n c locals s =
    through_surroundings m around n (Label values arity continuation c code) locals s ∙ ap (closed m around) (through_label m n values arity continuation c code locals s)
through_surroundings m (in_frame values arity code outer ∷ around) n c locals s =
    through_surroundings m around n (Frame values arity locals c code) outer s ∙ ap (closed m around) (through_frame m n values arity locals c code outer s)

pub ends_stay : EndsStay
ends_stay m [] e s = refl
ends_stay m (in_label values n continuation code ∷ around) e s = ends_stay m around e s
ends_stay m (in_frame values n code locals ∷ around) e s = ends_stay m around e s

pub stuck_stays : StuckStays
stuck_stays m [] s = refl
stuck_stays m (in_label values n continuation code ∷ around) s = stuck_stays m around s
stuck_stays m (in_frame values n code locals ∷ around) s = stuck_stays m around s

pub spent_stays : SpentStays
spent_stays m [] s = refl
spent_stays m (in_label values n continuation code ∷ around) s = spent_stays m around s
spent_stays m (in_frame values n code locals ∷ around) s = spent_stays m around s

paid_from : (m : WasmModule) (around : List Surrounding) (n : ℕ) (t : State) (go : State → Outcome) → closed m around (pay_from n t go) ≡ pay_from n t (λ t. closed m around (go t))
paid_from m around zero t go = spent_stays m around t.store
paid_from m around (suc n) t go = refl

pub paid_inside : PaidInside
paid_inside m around t go = paid_from m around t.left t go

pub number_inside : NumberInside
number_inside m around [] t go = stuck_stays m around t.store
number_inside m around (W32 n ∷ values) t go = refl
number_inside m around (W64 n ∷ values) t go = stuck_stays m around t.store

pub values_inside : ValuesInside
values_inside m around None t go = stuck_stays m around t.store
values_inside m around (Some values) t go = refl

pub effect_inside : EffectInside
effect_inside m around (goes values locals s) t go = refl
effect_inside m around (traps kind) t go = ends_stay m around (trapped kind) t.store
effect_inside m around sticks t go = stuck_stays m around t.store

pub choice_inside : ChoiceInside
choice_inside m around zero r other = refl
choice_inside m around (suc n) r other = refl
