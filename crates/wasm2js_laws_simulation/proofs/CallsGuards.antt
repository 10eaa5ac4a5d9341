-- Traps in a caller, and the guard of an index.
use Rattle.std.proofs.Common.{◌≡◌, ℕ, Bool, nat_lt, List, [], ◌∷◌, pos, refl, sym, ap, ◌∙◌, subst}
use Rattle.std.specs.Prelude.{if◌then◌else◌}
use Rattle.sem_words.specs.declared.word.Word.TheVariants.{W32}
use Rattle.sem_words.specs.declared.word.TrapKind.{TrapKind}
use Rattle.sem_words.specs.declared.js_value.JsValue.{JsValue}
use Rattle.sem_words.specs.declared.js_value.JsValue.TheVariants.{Whole, Bool as Boolean}
use Rattle.sem_words.specs.declared.js_value.JsOp.TheVariants.{Shr, Gt}
use Rattle.sem_words.specs.JsValues.{to_uint32_of, truthy_of}
use Rattle.sem_words.specs.JsOperators.{js_binary_of, unsigned_value}
use Rattle.sem_words.specs.Words.{trap_code}
use Rattle.session_lang.specs.Observation.{EventPlain, trapped, stopped, trap_name, ended}
use Rattle.session_lang.specs.Simulation.{IsSameAs}
use Rattle.asm_lang_exec.specs.Runs.{Place, Part, and_then, defined, read}
use Rattle.asm_lang_exec.specs.Meaning.{Completion, normal}
use Rattle.asm_laws_continuation.specs.Following.{call_named_to, exec_to}
use Rattle.wasm_laws_drive.specs.Drive.{Ended}
use Rattle.wasm2js_translation.specs.Names.{Name, spelled}
use Rattle.wasm2js_translation.specs.Words as text
use Rattle.wasm2js_translation.specs.Words.{guard, simple_statement, trap_call}
use Rattle.wasm2js_laws_terms.specs.Sound.{HasTrap}
use Rattle.wasm2js_laws_places.specs.Following.{Rest}
use Rattle.wasm2js_laws_places.specs.Places.{word_at, AreApart, store_of}
use Rattle.wasm2js_laws_actions.proofs.Numbers.{bound_found, whole_quotient}
use Rattle.wasm2js_laws_actions.proofs.Reading.{read_then, found_then}
use Rattle.wasm2js_laws_actions.proofs.Variables.{variable_read}
use Rattle.wasm2js_laws_preservation.specs.ControlControl.{Function, IsFair, Inside, IsFollowed}
use Rattle.wasm2js_laws_preservation.proofs.InstructionsEnding.{trap_same}

-- ---- the trap of this number, at p

module _ (f : Function) (fair : IsFair f) (most : ℕ) (w : List EventPlain) (p : Place) (i : Inside f most w p) (r : Rest) (kind : TrapKind) where
  pub trap_kept : (code : ℕ) → code ≡ trap_code kind → to_uint32_of (Whole (pos code)) ≡ code → HasTrap f.scope → r 1 ≡ f.watch (Ended (trapped kind) (store_of f.setting p w))
      → (next : Completion → Part (Unit {0})) → IsFollowed f p r (exec_to f.calls f.scope f.bound [] (trap_call code) next p)
  trap_kept code is word has ends next =
      subst (λ m. IsFollowed f p r (call_named_to f.calls m (Whole (pos code) ∷ []) (λ v. next normal) p)) (sym has)
      (record {
        cost = 1;
        same = subst (λ o. IsSameAs f.by o (ended p.events (stopped trap_name (W32 (to_uint32_of (Whole (pos code))) ∷ [])) p.heap)) (sym (ends ∙ fair.ended (trapped kind) (store_of f.setting p w)))
            (trap_same f fair most w p i kind code _ p is (record { end = ap (λ n. stopped trap_name (W32 n ∷ [])) word; has_heap = refl; events = refl }));
      })

-- ---- the guard

module _ (f : Function) (r : Rest) (p : Place) (apart : AreApart p) (n : Name) (most code : ℕ) (next : Completion → Part (Unit {0})) where
  abbrev picked : Bool → Part (Unit {0})
  picked b = if b then exec_to f.calls f.scope f.bound [] (trap_call code) next else next normal

  abbrev picks : JsValue → Part (Unit {0})
  picks v = if truthy_of v then exec_to f.calls f.scope f.bound [] (trap_call code) next else next normal

  abbrev compares : JsValue → Part (Unit {0})
  compares a = and_then (defined (js_binary_of Gt a (Whole (pos most)))) picks

  pub guard_then : ((b : Bool) → nat_lt most (word_at p n) ≡ b → IsFollowed f p r (picked b p))
      → IsFollowed f p r (exec_to f.calls f.scope f.bound [] (simple_statement (guard (text.read n) most code)) next p)
  guard_then h =
      read_then (IsFollowed f p r) (word_at p n) p (read (spelled n) p) (λ v. and_then (defined (js_binary_of Shr v (Whole (pos 0)))) compares) tt (variable_read n p apart)
      (λ v a.
      subst (λ y. IsFollowed f p r (compares y p)) (sym (ap unsigned_value (whole_quotient (to_uint32_of v) ∙ a)))
      (found_then (IsFollowed f p r) (Boolean (nat_lt most (word_at p n))) p (defined (js_binary_of Gt (unsigned_value (word_at p n)) (unsigned_value most)) p) picks tt (bound_found (word_at p n) most p)
      (h (nat_lt most (word_at p n)) refl)))
