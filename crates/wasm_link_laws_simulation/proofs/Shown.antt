-- What a pair shows after some reductions, and what the linked module does.
use Rattle.std.proofs.Common.{◌≡◌, ℕ, zero, suc, ◌+◌, List, Option, Some, None, refl, sym, ap, ◌∙◌, subst, arith}
use Rattle.std.specs.Prelude.{ℤ, option_map}
use Rattle.session_lang.specs.Script.{ScriptPlain}
use Rattle.session_lang.specs.Observation.{ObservationPlain}
use Rattle.wasm_lang.specs.Modules.{WasmModule}
use Rattle.wasm_lang_exec.specs.Store.{Store}
use Rattle.wasm_lang_exec.specs.Reductions.{Callee, an_import, a_function, callee_at}
use Rattle.wasm_lang_exec.specs.Session as machine
use Rattle.wasm_lang_exec.specs.Session.{function_named, arguments_for, first_store, with_entries, with_bytes, wasm}
use Rattle.wasm_link_lang.specs.Pairs.{Pair, past_first, called}
use Rattle.wasm_link_lang.specs.Session.{pair_store, first_or_second, address_named, calls_seen, both_started, instantiated, pair}
use Rattle.wasm_link_code.specs.Numbers.{number}
use Rattle.wasm_link_code.specs.Linked.{second_start, linked_start, linked}
use Rattle.wasm_link_laws_modules.specs.Callees.{IsMoved}
use Rattle.wasm_link_laws_modules.specs.Laws.{IsLinkable}
use Rattle.wasm_link_laws_modules.proofs.Law.{numbers_are_callees}
use Rattle.wasm_link_laws_modules.proofs.Names.{linked_named}
use Rattle.wasm_link_laws_modules.proofs.Scripts.{named_typed}
use Rattle.wasm_link_laws_modules.proofs.Types.{typed_first, typed_second}
use Rattle.wasm_link_laws_sessions.specs.Alike.{IsFunction, store_of}
use Rattle.wasm_link_laws_sessions.specs.Globals.{in_order, global_count}
use Rattle.wasm_link_laws_sessions.proofs.Law.{reductions_are_followed}
use Rattle.wasm_link_laws_simulation.specs.Laws.{Shows, PairsAreLinked}
use Rattle.wasm_link_laws_simulation.proofs.Calls.{calls_show}
use Rattle.wasm_link_laws_simulation.proofs.Starts.{starts_show}
use Rattle.wasm_link_laws_simulation.proofs.LastFunction.{are_starts}
use Rattle.wasm_link_laws_simulation.proofs.Instantiated.{begins_alike}

linked_start_is : (w : Pair) → (linked w).start ≡ linked_start w w.first.start (second_start w)
unfolding linked
linked_start_is w = refl

module _ (w : Pair) (ok : IsLinkable w) where
  abbrev m : WasmModule
  m = linked w

  abbrev past : ℕ → ℕ
  past f = (past_first w).functions + f

  -- ---- names and arguments

  either_number : (o p : Option ℕ) → first_or_second (option_map (number w) o) (option_map (λ f. number w (past f)) p) ≡ option_map (number w) (first_or_second o (option_map past p))
  either_number None None = refl
  either_number None (Some f) = refl
  either_number (Some f) p = refl

  named : (name : List ℕ) → function_named m.exports name ≡ option_map (number w) (address_named w name)
  named name = linked_named w ok.first ok.second name ∙ either_number (function_named w.first.exports name) (function_named w.second.exports name)

  exported : (name : List ℕ) (a : ℕ) → address_named w name ≡ Some a → IsFunction w a
  exported name a e = by (function_named w.first.exports name) refl (function_named w.second.exports name) refl e
    where
      first_of : (f : ℕ) → function_named w.first.exports name ≡ Some f → IsFunction w f
      first_of f h = let t = named_typed w.first ok.first name f h in (t.0, typed_first w f t.0 t.1)

      second_of : (f : ℕ) → function_named w.second.exports name ≡ Some f → IsFunction w (past f)
      second_of f h = let t = named_typed w.second ok.second name f h in (t.0, typed_second w f t.0 t.1)

      by : (o : Option ℕ) → function_named w.first.exports name ≡ o → (p : Option ℕ) → function_named w.second.exports name ≡ p → first_or_second o (option_map past p) ≡ Some a → IsFunction w a
      by (Some f) h p g e = let same : f ≡ a = cc e in subst (IsFunction w) same (first_of f h)
      by None h (Some f) g e = let same : past f ≡ a = cc e in subst (IsFunction w) same (second_of f g)
      by None h None g e = absurd (cc e)

  arguments : (a : ℕ) → IsFunction w a → (zs : List ℤ) → arguments_for (callee_at m (number w a)) zs ≡ arguments_for (called w a) zs
  arguments a is zs = by (called w a) (numbers_are_callees w ok a is.0 is.1)
    where
      by : (c : Option Callee) → IsMoved w c (callee_at m (number w a)) → arguments_for (callee_at m (number w a)) zs ≡ arguments_for c zs
      by None it = ap (λ c. arguments_for c zs) it
      by (Some (an_import name t)) it = ap (λ c. arguments_for c zs) it
      by (Some (a_function t more code)) it = ap (λ c. arguments_for c zs) it.1

  -- ---- sessions

  module _ (s : ScriptPlain) where
    abbrev begun : Store
    begun = pair_store w s

    pair_begins : (n : ℕ) → pair w s (suc n) ≡ both_started w n begun (calls_seen w s.calls)
    pair_begins n = ap (λ b. instantiated b w s n) (begins_alike w ok s).pair_fits

    linked_begins : (n : ℕ) → wasm m s (suc n) ≡ machine.started m (linked_start w w.first.start (second_start w)) n (store_of w (in_order w) begun) (machine.calls_seen m s.calls)
    linked_begins n =
        let first = first_store m s in
        ap (λ b. machine.instantiated b m s n first) (begins_alike w ok s).linked_fits
        ∙ ap (λ o. machine.started m o n (with_bytes m.segments (with_entries m.elements first)) (machine.calls_seen m s.calls)) (linked_start_is w)
        ∙ ap (λ s1. machine.started m (linked_start w w.first.start (second_start w)) n s1 (machine.calls_seen m s.calls)) (begins_alike w ok s).store

    started_shows : (n : ℕ) → Shows n 2 (both_started w n begun (calls_seen w s.calls))
        (λ b. machine.started m (linked_start w w.first.start (second_start w)) b (store_of w (in_order w) begun) (machine.calls_seen m s.calls))
    started_shows n =
        starts_show w m (global_count w) (in_order w) (reductions_are_followed w ok) w.first.start (second_start w) (are_starts w ok) n begun (calls_seen w s.calls) (machine.calls_seen m s.calls)
        (begins_alike w ok s).holds (calls_show w m (global_count w) (in_order w) (reductions_are_followed w ok) named exported arguments s.calls)

    shows : (n : ℕ) → Shows n 2 (pair w s n) (wasm m s)
    shows zero = record { count = 0; few = omega arith; many = λ h. omega arith; same = refl }
    shows (suc n) =
        let it = started_shows n in
        let few = it.few in
        let same = pair_begins n in
        record {
          count = suc it.count;
          few = omega (arith, few);
          many = λ h. let many = it.many (ap (λ (o : ObservationPlain). o.end) (sym same) ∙ h) in omega (arith, many);
          same = same ∙ it.same ∙ sym (linked_begins it.count);
        }

pub pairs_are_linked : PairsAreLinked
pairs_are_linked w ok s n = shows w ok s n
