-- The laws, from their parts.
use Rattle.std.proofs.Common.{◌≡◌, ◌⊎◌, inl, inr, ℕ, ◌+◌, ◌-◌, ◌*◌, ◌<◌, ◌≤◌, Option, Some, None, refl, sym, ap, ◌∙◌, subst, arith}
use Rattle.std.proofs.lemmas.Bool.{cases_lt}
use Rattle.session_lang.specs.Script.{ScriptPlain}
use Rattle.session_lang.specs.Observation.{EndPlain, ObservationPlain, IsBelow}
use Rattle.session_lang.proofs.BelowLaws.{below_is_reflexive}
use Rattle.wasm_lang_exec.specs.Session.{wasm}
use Rattle.wasm_laws_drive.proofs.Sessions.{sessions_grow, ended_sessions_stay}
use Rattle.wasm_link_lang.specs.Pairs.{Pair}
use Rattle.wasm_link_lang.specs.Session.{pair}
use Rattle.wasm_link_code.specs.Linked.{linked}
use Rattle.wasm_link_laws_modules.specs.Laws.{IsLinkable}
use Rattle.wasm_link_laws_modules.proofs.Law.{valid, called_as_asked, scripts_are_alike}
use Rattle.wasm_link_laws_simulation.specs.Laws.{Shows, LinkedIsAllowed, LinkedIsBounded}
use Rattle.wasm_link_laws_simulation.proofs.Shown.{pairs_are_linked}

module _ (w : Pair) (ok : IsLinkable w) (s : ScriptPlain) where
  -- as many reductions as the pair's show what it does, and no more is needed
  no_more : (n : ℕ) → IsBelow (pair w s n) (wasm (linked w) s (6 * n + 2))
  no_more n =
      let it = pairs_are_linked w ok s n in
      subst (λ o. IsBelow o (wasm (linked w) s (6 * n + 2))) (sym it.same) (sessions_grow (linked w) s it.count (6 * n + 2) it.few)

  no_fewer : (n : ℕ) → IsBelow (wasm (linked w) s n) (pair w s n)
  no_fewer n = by (pair w s n).end refl (cases_lt it.count n)
    where
      it : Shows n 2 (pair w s n) (wasm (linked w) s)
      it = pairs_are_linked w ok s n

      grown : n ≤ it.count → IsBelow (wasm (linked w) s n) (pair w s n)
      grown h = subst (IsBelow (wasm (linked w) s n)) (sym it.same) (sessions_grow (linked w) s n it.count h)

      by : (o : Option EndPlain) → (pair w s n).end ≡ o → (it.count < n) ⊎ (n ≤ it.count) → IsBelow (wasm (linked w) s n) (pair w s n)
      by o e (inr h) = grown h
      by None e (inl h) = grown (it.many e)
      by (Some x) e (inl h) =
          let ends : (wasm (linked w) s it.count).end ≡ Some x = ap (λ (o : ObservationPlain). o.end) (sym it.same) ∙ e in
          let stays = ended_sessions_stay (linked w) s it.count (n - it.count) x ends in
          let sum : it.count + (n - it.count) ≡ n = omega (arith, h) in
          let same : wasm (linked w) s n ≡ pair w s n = ap (wasm (linked w) s) (sym sum) ∙ stays ∙ sym it.same in
          subst (IsBelow (wasm (linked w) s n)) same (below_is_reflexive (wasm (linked w) s n))

pub linked_is_bounded : LinkedIsBounded
linked_is_bounded w ok = record { no_more = λ s fits n. no_more w ok s n; no_fewer = λ s fits n. no_fewer w ok s n }

pub linked_is_allowed : LinkedIsAllowed
linked_is_allowed w ok = record {
  valid = valid w ok;
  called = called_as_asked w ok;
  fits = scripts_are_alike w ok;
  simulates = λ s fits. record { nothing_lost = λ n. (6 * n + 2, no_more w ok s n); nothing_new = λ k. (k, no_fewer w ok s k) };
}
