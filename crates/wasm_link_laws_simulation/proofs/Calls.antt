-- A script's calls of a pair, one after the other, and those of the module.
use Rattle.std.proofs.Common.{◌≡◌, ℕ, ◌+◌, List, [], ◌∷◌, length, Option, Some, None, refl, sym, ap, ◌∙◌, subst, arith}
use Rattle.std.specs.Prelude.{ℤ, reverse, option_map}
use Rattle.sem_words.specs.declared.word.Word.{Word}
use Rattle.session_lang.specs.Script.{CallPlain}
use Rattle.session_lang.specs.Observation.{EndPlain, ObservationPlain, done}
use Rattle.wasm_lang.specs.Modules.{WasmModule}
use Rattle.wasm_lang_exec.specs.Code.{call, ε, ◌▹◌}
use Rattle.wasm_lang_exec.specs.Store.{Store}
use Rattle.wasm_lang_exec.specs.Reductions.{callee_at, Config, Code}
use Rattle.wasm_lang_exec.specs.Session as machine
use Rattle.wasm_lang_exec.specs.Session.{Run, finished, spent, over, function_named, arguments_for, result_event, with_event, after_call, after_start}
use Rattle.wasm_laws_drive.specs.Drive.{drive}
use Rattle.wasm_laws_drive.specs.Laws.{run_of}
use Rattle.wasm_laws_drive.proofs.Counting.{run_is_driven}
use Rattle.wasm_link_lang.specs.Pairs.{Pair, called}
use Rattle.wasm_link_lang.specs.Reductions.{reduce}
use Rattle.wasm_link_lang.specs.Session.{run_call, address_named, one_call, calls_seen}
use Rattle.wasm_link_code.specs.Numbers.{number}
use Rattle.wasm_link_laws_sessions.specs.Alike.{IsFunction, IsAlike}
use Rattle.wasm_link_laws_sessions.specs.Follows.{Holds, Follows}
use Rattle.wasm_link_laws_simulation.specs.Laws.{Shows}
use Rattle.wasm_link_laws_simulation.proofs.Runs.{st, Ran, ran}

-- with less to come, or with more room
pub shows_within : (n more : ℕ) (seen : ObservationPlain) (target : ℕ → ObservationPlain) → Shows n 0 seen target → Shows n more seen target
shows_within n more seen target it = let few = it.few in record { count = it.count; few = omega (arith, few); many = it.many; same = it.same }

-- what follows a call or a start
abbrev pub Following : Type 0
Following = ℕ → Store → ObservationPlain

pub no_end : {A : Type 0} → (e : EndPlain) → Some e ≡ None → A
no_end e h = absurd (cc h)

module _ (w : Pair) (m : WasmModule) (g : ℕ) (order : List Word → List Word)
    (follows : (c : Config) (locals room : List Word) (s : Store) (c' : Config) → IsAlike w g c (length locals) (length room) c' → Holds w m g order s
    → Follows w m g order (reduce w c locals s) c' locals room s) where
  abbrev pub to : Store → Store
  to s = st w m g order follows s

  abbrev pub HasRun : Run → ℕ → Config → Store → Type 0
  HasRun r n x s = Ran w m g order follows r n x [] s

  pub ran_call : (n a : ℕ) (arguments : List Word) (s : Store) → IsFunction w a → Holds w m g order s
      → HasRun (run_call w n a arguments s) n (Code (reverse arguments) (call (number w a) ▹ ε)) s
  ran_call n a arguments s is holds =
      ran w m g order follows n (Code (reverse arguments) (call a ▹ ε)) [] [] s (Code (reverse arguments) (call (number w a) ▹ ε)) ((is, tt), refl) holds

  abbrev pub Follow : Following → Following → Type 0
  Follow next next' = (left : ℕ) (s : Store) → Holds w m g order s → Shows left 0 (next left s) (λ b. next' b (to s))

  runs_to : (n : ℕ) (x : Config) (s : Store) (r : Run) → run_of (drive m n x [] (to s)) ≡ r → machine.run m n x [] (to s) ≡ r
  runs_to n x s r e = run_is_driven m n x [] (to s) ∙ e

  pub shows_call : (r : Run) (n : ℕ) (x : Config) (s : Store) (next next' : Following) → HasRun r n x s → Follow next next'
      → Shows n 0 (after_call r next) (λ b. after_call (machine.run m b x [] (to s)) next')
  shows_call (finished vs s1 left) n x s next next' it follow =
      let a = it.1 in
      let b = it.2 in
      let further = follow left (with_event (result_event vs) s1) it.5 in
      let c = further.few in
      let d = further.many in
      record {
        count = it.0 + further.count;
        few = omega (arith, b, c);
        many = λ e. let h = d e in omega (arith, a, h);
        same = further.same ∙ sym (ap (λ r. after_call r next') (runs_to (it.0 + further.count) x s (finished vs (to s1) further.count) (ap run_of (it.6 further.count))));
      }
  shows_call (over e s1) n x s next next' it follow =
      let a = it.1 in
      record {
        count = it.0 + 0;
        few = omega (arith, a);
        many = λ h. no_end e h;
        same = sym (ap (λ r. after_call r next') (runs_to (it.0 + 0) x s (over e (to s1)) (ap run_of (it.2 0))));
      }
  shows_call (spent s1) n x s next next' it follow =
      let a = it.1 in
      let b = it.2 in
      record { count = it.0; few = omega (arith, b); many = λ h. a; same = sym (ap (λ r. after_call r next') (runs_to it.0 x s (spent (to s1)) it.3)) }

  pub shows_start : (r : Run) (n : ℕ) (x : Config) (s : Store) (next next' : Following) → HasRun r n x s → Follow next next'
      → Shows n 0 (after_start r next) (λ b. after_start (machine.run m b x [] (to s)) next')
  shows_start (finished vs s1 left) n x s next next' it follow =
      let a = it.1 in
      let b = it.2 in
      let further = follow left s1 it.5 in
      let c = further.few in
      let d = further.many in
      record {
        count = it.0 + further.count;
        few = omega (arith, b, c);
        many = λ e. let h = d e in omega (arith, a, h);
        same = further.same ∙ sym (ap (λ r. after_start r next') (runs_to (it.0 + further.count) x s (finished vs (to s1) further.count) (ap run_of (it.6 further.count))));
      }
  shows_start (over e s1) n x s next next' it follow =
      let a = it.1 in
      record {
        count = it.0 + 0;
        few = omega (arith, a);
        many = λ h. no_end e h;
        same = sym (ap (λ r. after_start r next') (runs_to (it.0 + 0) x s (over e (to s1)) (ap run_of (it.2 0))));
      }
  shows_start (spent s1) n x s next next' it follow =
      let a = it.1 in
      let b = it.2 in
      record { count = it.0; few = omega (arith, b); many = λ h. a; same = sym (ap (λ r. after_start r next') (runs_to it.0 x s (spent (to s1)) it.3)) }

  -- ---- a script's calls

  module _ (named : (name : List ℕ) → function_named m.exports name ≡ option_map (number w) (address_named w name))
      (exported : (name : List ℕ) (a : ℕ) → address_named w name ≡ Some a → IsFunction w a)
      (arguments : (a : ℕ) → IsFunction w a → (zs : List ℤ) → arguments_for (callee_at m (number w a)) zs ≡ arguments_for (called w a) zs) where
    one_shows : (o : Option ℕ) → ((a : ℕ) → o ≡ Some a → IsFunction w a) → (zs : List ℤ) (n : ℕ) (s : Store) (next next' : Following) → Holds w m g order s → Follow next next'
        → Shows n 0 (one_call w o zs n s next) (λ b. machine.one_call m (option_map (number w) o) zs b (to s) next')
    one_shows None is zs n s next next' holds follow = record { count = n; few = omega arith; many = λ h. omega arith; same = refl }
    one_shows (Some a) is zs n s next next' holds follow =
        let vs = arguments_for (called w a) zs in
        subst (λ us. Shows n 0 (one_call w (Some a) zs n s next) (λ b. after_call (machine.run m b (Code (reverse us) (call (number w a) ▹ ε)) [] (to s)) next')) (sym (arguments a (is a refl) zs))
        (shows_call (run_call w n a vs s) n (Code (reverse vs) (call (number w a) ▹ ε)) s next next' (ran_call n a vs s (is a refl) holds) follow)

    pub calls_show : (cs : List CallPlain) → Follow (calls_seen w cs) (machine.calls_seen m cs)
    calls_show [] n s holds = record { count = 0; few = omega arith; many = λ h. no_end done h; same = refl }
    calls_show (c ∷ cs) n s holds =
        subst (λ o. Shows n 0 (one_call w (address_named w c.name) c.args n s (calls_seen w cs)) (λ b. machine.one_call m o c.args b (to s) (machine.calls_seen m cs))) (sym (named c.name))
        (one_shows (address_named w c.name) (exported c.name) c.args n s (calls_seen w cs) (machine.calls_seen m cs) holds (calls_show cs))
