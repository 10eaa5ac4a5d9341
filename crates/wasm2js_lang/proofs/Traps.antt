-- The traps of one session are those of another that simulates it.
use Rattle.std.proofs.Common.{◌≡◌, ℕ, List, [], ◌∷◌, Option, Some, None, option_map, refl, sym, ap, ◌∙◌}
use Rattle.std.specs.List.{flat_map}
use Rattle.sem_words.specs.declared.word.Word.{Word}
use Rattle.sem_words.specs.declared.word.Word.TheVariants.{W32, W64}
use Rattle.session_lang.specs.Observation.{EndPlain, done, stopped, no_reply, trapped, trap_name, as_stop, ObservationPlain}
use Rattle.session_lang.specs.Simulation.{Session, IsSameAs, SourceBelowFrom, TargetBelowFrom, Sim}
use Rattle.session_lang.specs.CallingForms.{split_word, split_end, comparison_to_asm}
use Rattle.wasm_lang.specs.Modules.{WasmModule}
use Rattle.asm_lang.specs.Modules.{Module}
use Rattle.wasm2js_lang.specs.Allowed.{comparison, source_session, target_session, IsAllowed, EndsInTrap, TrapsAreCalls}

-- ---- a call of the trap import with one word stays one, and comes from one

abbrev Call : ℕ → EndPlain
Call kind = stopped trap_name (W32 kind ∷ [])

goes_over : (kind : ℕ) (e : EndPlain) → as_stop e ≡ Call kind → as_stop (split_end e) ≡ Call kind
goes_over kind done h = cc h
goes_over kind (no_reply name args) h = cc h
goes_over kind (trapped t) h = h
goes_over kind (stopped name args) h =
    let n : name ≡ trap_name = cc h in
    let a : args ≡ W32 kind ∷ [] = cc h in
    ap (λ (n : List ℕ). stopped n (flat_map split_word args)) n ∙ ap (λ args. stopped trap_name (flat_map split_word args)) a

one_word : (kind : ℕ) (args : List Word) → flat_map split_word args ≡ W32 kind ∷ [] → args ≡ W32 kind ∷ []
one_word kind [] h = h
one_word kind (W32 n ∷ []) h = h
one_word kind (W32 n ∷ W32 k ∷ args) h = cc h
one_word kind (W32 n ∷ W64 k ∷ args) h = cc h
one_word kind (W64 n ∷ args) h = cc h

came_over : (kind : ℕ) (e : EndPlain) → as_stop (split_end e) ≡ Call kind → as_stop e ≡ Call kind
came_over kind done h = h
came_over kind (no_reply name args) h = cc h
came_over kind (trapped t) h = h
came_over kind (stopped name args) h =
    let n : name ≡ trap_name = cc h in
    let w : flat_map split_word args ≡ W32 kind ∷ [] = cc h in
    let a = one_word kind args w in
    ap (λ (n : List ℕ). stopped n args) n ∙ ap (λ args. stopped trap_name args) a

-- ---- of ends that may be

abbrev Ends : ℕ → Option EndPlain → Type 0
Ends kind o = option_map as_stop o ≡ Some (Call kind)

source_over : (kind : ℕ) (o : Option EndPlain) → Ends kind o → option_map (λ e. as_stop (split_end e)) o ≡ Some (Call kind)
source_over kind None h = cc h
source_over kind (Some e) h = let c : as_stop e ≡ Call kind = cc h in ap Some (goes_over kind e c)

source_came : (kind : ℕ) (o : Option EndPlain) → option_map (λ e. as_stop (split_end e)) o ≡ Some (Call kind) → Ends kind o
source_came kind None h = cc h
source_came kind (Some e) h = let c : as_stop (split_end e) ≡ Call kind = cc h in ap Some (came_over kind e c)

module _ (first : List ℕ) (x y : ObservationPlain) (kind : ℕ) where
  source_same : (o : Option EndPlain) → x.end ≡ o → Ends kind o → SourceBelowFrom o (comparison_to_asm first) x y → IsSameAs (comparison_to_asm first) x y
  source_same None is h below = cc h
  source_same (Some e) is h below = below

  target_same : (o : Option EndPlain) → y.end ≡ o → Ends kind o → TargetBelowFrom o (comparison_to_asm first) y x → IsSameAs (comparison_to_asm first) x y
  target_same None is h below = cc h
  target_same (Some e) is h below = below

module _ (first : List ℕ) (source target : Session) (sim : Sim (comparison_to_asm first) source target) (kind : ℕ) where
  called : (n : ℕ) → EndsInTrap kind (source n) → (m : ℕ) × EndsInTrap kind (target m) × IsSameAs (comparison_to_asm first) (source n) (target m)
  called n h =
      let m = sim.nothing_lost n in
      let same = source_same first (source n) (target m.0) kind (source n).end refl h m.1 in
      (m.0, sym same.end ∙ source_over kind (source n).end h, same)

  no_other : (m : ℕ) → EndsInTrap kind (target m) → (n : ℕ) × EndsInTrap kind (source n) × IsSameAs (comparison_to_asm first) (source n) (target m)
  no_other m h =
      let n = sim.nothing_new m in
      let same = target_same first (source n.0) (target m) kind (target m).end refl h n.1 in
      (n.0, source_came kind (source n.0).end (same.end ∙ h), same)

pub traps_are_calls : (w : WasmModule) (a : Module) → IsAllowed w a → TrapsAreCalls w a
traps_are_calls w a allowed = record {
  called = λ s fits kind n h. called (comparison w a s).first_heap (source_session w s) (target_session w a s) (allowed.simulates s fits) kind n h;
  no_other = λ s fits kind m h. no_other (comparison w a s).first_heap (source_session w s) (target_session w a s) (allowed.simulates s fits) kind m h;
}
