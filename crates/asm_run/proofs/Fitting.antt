-- A session that was linked is that of its module.
use Rattle.std.proofs.Common.{◌≡◌, ℕ, ◌+◌, List, map, Option, Some, None, sym, ap, ◌∙◌, subst}
use Rattle.std.specs.Borrow.{Bor}
use Rattle.sem_words.specs.Lists.{list_items}
use Rattle.session_lang.specs.Observation.{ObservationPlain}
use Rattle.session_lang.specs.Views.{call_of, script_of}
use Rattle.session_lang.specs.declared.script.CallLine.{CallLine}
use Rattle.session_lang.specs.declared.script.Script.{Script}
use Rattle.session_replies.specs.declared.seen.Seen.{Seen}
use Rattle.asm_tree.specs.declared.tree.Module.{Module as Tree}
use Rattle.asm_tree.specs.Views.{module_view}
use Rattle.asm_lang_valid.specs.Refusal.{IsAccepted}
use Rattle.asm_lang_exec.specs.Session.{asm, checked_asm}
use Rattle.asm_lang_exec.specs.Fits.{misfit}
use Rattle.asm_laws_sound.specs.Laws.{AcceptedNeverGoWrong, ChecksChangeNothing}
use Rattle.asm_run_code.specs.Modules as code
use Rattle.asm_run_code.specs.Sessions.{flat_calls}
use Rattle.asm_run_emit_bodies.specs.declared.modules.Codes.{Codes}
use Rattle.asm_run_laws.specs.Laws.{SessionsDo}
use Rattle.asm_run_steps.specs.declared.world.World.{World}
use Rattle.asm_run_steps.specs.Worlds.{WorldPlain, world_of}
use Rattle.asm_run_state.specs.Globals.{first_world}
use Rattle.asm_run.specs.Linked.{SessionPlain, IsLinked}
use Rattle.asm_run_state.specs.Session.{seen_option, resting, IsSession}

not_none : (r : Option ObservationPlain) → (seen : ObservationPlain) × (r ≡ Some seen) → None ≡ r → ⊥
not_none r h e = cc (e, h.1)

-- a session that is run is one that was linked
module _ (p : SessionPlain) (m : Tree) (size : ℕ) (script : Script) (codes : Codes) (members : List (Bor (List ℕ))) (callees : List (Option ℕ)) (w : World) (is : record { code = m; size = size; script = script_of script } ≡ p) (l : IsLinked m size (script_of script) codes members callees w) where
  accepted_here : IsAccepted (module_view p.code)
  accepted_here = subst (λ (p : SessionPlain). IsAccepted (module_view p.code)) is l.accepted

  fits_here : misfit (module_view p.code) p.size p.script ≡ None
  fits_here = subst (λ (p : SessionPlain). misfit (module_view p.code) p.size p.script ≡ None) is l.fits

  pub never_wrong_here : AcceptedNeverGoWrong → (units : ℕ) → (seen : ObservationPlain) × (asm (module_view p.code) p.size p.script units ≡ Some seen)
  never_wrong_here law units = law (module_view p.code) p.size p.script units accepted_here fits_here

  pub types_hold_here : ChecksChangeNothing → (units : ℕ) → checked_asm (module_view p.code) p.size p.script units ≡ asm (module_view p.code) p.size p.script units
  types_hold_here law units = law (module_view p.code) p.size p.script units accepted_here fits_here

  -- what the calls come to is the meaning, where the meaning shows anything
  linked_means : SessionsDo → (v : WorldPlain) (units : ℕ) (calls : List CallLine) (seen : Option Seen) (o : ObservationPlain) → v ≡ record (world_of w) { units = units } → calls ≡ list_items script.calls
      → IsSession (module_view m) (map call_of calls) v seen → asm (module_view m) size (script_of script) units ≡ Some o → seen_option seen ≡ Some o
  linked_means law v units calls seen o given same run shows =
      let h = law (module_view m) size (script_of script) units l.accepted (λ _. l.long) l.fits in
      let k = h.0 + 0 in
      let c = code.codes_of (module_view m) in
      let world : v ≡ first_world (module_view m) size (script_of script) units = given ∙ ap (λ (x : WorldPlain). record x { units = units }) l.begins in
      run k o
      (ap (λ (x : WorldPlain). flat_calls k c (module_view m) (map call_of calls) (resting x)) world
      ∙ ap (λ (ls : List CallLine). flat_calls k c (module_view m) (map call_of ls) (resting (first_world (module_view m) size (script_of script) units))) same
      ∙ h.1 0 ∙ shows)

  -- it is the meaning
  pub means : SessionsDo → AcceptedNeverGoWrong → (v : WorldPlain) (units : ℕ) (calls : List CallLine) (seen : Option Seen) → v ≡ record (world_of w) { units = units } → calls ≡ list_items script.calls
      → IsSession (module_view m) (map call_of calls) v seen → seen_option seen ≡ asm (module_view p.code) p.size p.script units
  means law never v units calls seen given same run =
      let h = never_wrong_here never units in
      linked_means law v units calls seen h.0 given same run (ap (λ (p : SessionPlain). asm (module_view p.code) p.size p.script units) is ∙ h.1) ∙ sym h.1

  -- .. and there is one
  pub is_one : SessionsDo → AcceptedNeverGoWrong → (v : WorldPlain) (units : ℕ) (calls : List CallLine) (seen : Option Seen) → v ≡ record (world_of w) { units = units } → calls ≡ list_items script.calls
      → IsSession (module_view m) (map call_of calls) v seen → seen ≡ None → ⊥
  is_one law never v units calls seen given same run none =
      let h = never_wrong_here never units in
      not_none (asm (module_view p.code) p.size p.script units) h (ap seen_option (sym none) ∙ means law never v units calls seen given same run)
