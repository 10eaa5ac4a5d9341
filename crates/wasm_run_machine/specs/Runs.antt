-- What a run of a host's call promises.
use Rattle.std.specs.Prelude.{◌≡◌}
use Rattle.session_lang.specs.Views.{end_of}
use Rattle.wasm_lang_exec.specs.Session as session
use Rattle.wasm_lang_exec.specs.Session.{finished, spent, over}
use Rattle.wasm_laws_drive.specs.Drive.{Outcome, Next, Ended}
use Rattle.wasm_laws_drive.specs.Laws.{run_of}
use Rattle.wasm_laws_machine.specs.Machine.{MachinePlain, state_of}
use Rattle.wasm_run_machine.specs.declared.running.Ran.{Ran}
use Rattle.wasm_run_machine.specs.declared.running.Ran.TheVariants.{Back, Over, Spent}

-- the call came back with the operands and so many reductions left; the session is over; or the reductions are used up, or there is no next one
abbrev pub CameTo : Ran → MachinePlain → Outcome → Type 0
CameTo (Back left) v r = r ≡ Next (state_of v left)
CameTo (Over e) v r = r ≡ Ended (end_of e) v.store
CameTo Spent v r = run_of r ≡ spent v.store

-- .. as the run of a call
abbrev pub RanAs : Ran → MachinePlain → session.Run → Type 0
RanAs (Back left) v run = run ≡ finished v.values v.store left
RanAs (Over e) v run = run ≡ over (end_of e) v.store
RanAs Spent v run = run ≡ spent v.store
