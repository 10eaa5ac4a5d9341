-- What holds of the sessions of a pair and of the module that it is linked to.
use Rattle.std.specs.Prelude.{◌≡◌, ℕ, ◌+◌, ◌*◌, ◌≤◌, true, ◌&&◌, None}
use Rattle.session_lang.specs.Script.{ScriptPlain}
use Rattle.session_lang.specs.Observation.{ObservationPlain}
use Rattle.session_lang.specs.Simulation.{Session}
use Rattle.wasm_lang_exec.specs.Session.{first_store, entries_fit, bytes_fit, with_entries, with_bytes, wasm}
use Rattle.wasm_link_lang.specs.Pairs.{Pair}
use Rattle.wasm_link_lang.specs.Session.{pair_memory, pair_store, segments_fit, pair}
use Rattle.wasm_link_lang.specs.Allowed.{IsAllowed, IsBounded}
use Rattle.wasm_link_code.specs.Linked.{linked}
use Rattle.wasm_link_laws_modules.specs.Laws.{IsLinkable}
use Rattle.wasm_link_laws_sessions.specs.Alike.{store_of}
use Rattle.wasm_link_laws_sessions.specs.Globals.{in_order, global_count}
use Rattle.wasm_link_laws_sessions.specs.Follows.{Holds}

-- ---- instances

-- no segment lies outside, in the pair nor in the linked module, and the store that both begin with is the same but for its numbers
pub record BeginsAlike (w : Pair) (s : ScriptPlain) : Type 0 where
  pub pair_fits : (segments_fit w.first s (pair_memory w s) && segments_fit w.second s (pair_memory w s)) ≡ true
  pub linked_fits : (entries_fit (first_store (linked w) s) (linked w).elements && bytes_fit (first_store (linked w) s) (linked w).segments) ≡ true
  pub store : with_bytes (linked w).segments (with_entries (linked w).elements (first_store (linked w) s)) ≡ store_of w (in_order w) (pair_store w s)
  pub holds : Holds w (linked w) (global_count w) (in_order w) (pair_store w s)

abbrev pub InstancesAreAlike : Type 0
InstancesAreAlike = (w : Pair) → IsLinkable w → (s : ScriptPlain) → BeginsAlike w s

-- ---- sessions

-- what is seen after n reductions is what the target shows after at most six times as many and some more, and no fewer while it runs
pub record Shows (n more : ℕ) (seen : ObservationPlain) (target : Session) : Type 0 where
  pub count : ℕ
  pub few : count ≤ 6 * n + more
  pub many : seen.end ≡ None → n ≤ count
  pub same : seen ≡ target count

abbrev pub PairsAreLinked : Type 0
PairsAreLinked = (w : Pair) → IsLinkable w → (s : ScriptPlain) (n : ℕ) → Shows n 2 (pair w s n) (wasm (linked w) s)

abbrev pub LinkedIsAllowed : Type 0
LinkedIsAllowed = (w : Pair) → IsLinkable w → IsAllowed w (linked w)

abbrev pub LinkedIsBounded : Type 0
LinkedIsBounded = (w : Pair) → IsLinkable w → IsBounded w (linked w)
