-- What follows from further on follows from an earlier place with as many units, and with more units that no reduction pays for.
use Rattle.std.proofs.Common.{◌≡◌, ℕ, ◌≤◌, List, arith}
use Rattle.session_lang.specs.Observation.{EventPlain, IsPrefix}
use Rattle.session_lang.proofs.BelowLaws.{prefix_trans}
use Rattle.session_lang.specs.Simulation.{Comparison}
use Rattle.session_lang.specs.Laws.{KeepsOrder}
use Rattle.asm_lang_exec.specs.Runs.{Place, Run, goes, stops, spent, wrong}
use Rattle.wasm2js_laws_places.specs.Following.{Rest, Lower, reached, before, Follows}

module _ (by : Comparison) (keeps : KeepsOrder by) (c y z : ℕ) (p q : Place) (r : Rest) (le : y ≤ z) (same : p.units ≡ q.units) (more : IsPrefix p.events q.events) where
  lower_still : (later : List EventPlain) → Lower by c y q.units r q.events later → Lower by c z p.units r p.events later
  lower_still later (reached low below enough) = reached low below (omega (arith, le, same, enough))
  lower_still later (before h few) = before (prefix_trans _ _ _ (keeps.target p.events q.events more) h) (omega (arith, le, same, few))

  pub weaker : (run : Run (Unit {0})) → Follows by c y q r run → Follows by c z p r run
  weaker (goes t x) h = h
  weaker (stops e x) h = h
  weaker (spent x) h = record { high = h.high; no_more = h.no_more; lower = lower_still x.events h.lower }
  weaker wrong h = tt
