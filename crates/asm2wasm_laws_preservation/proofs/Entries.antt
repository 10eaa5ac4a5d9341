-- Calls by the entries of a table, and all calls together.
use Rattle.std.proofs.Common.{◌≡◌, ℕ, zero, suc, ◌+◌, Bool, true, List, [], ◌∷◌, ◌++◌, length, Option, Some, None, refl, sym, ap, ◌∙◌, subst}
use Rattle.std.proofs.lemmas.Bool.{and_parts, eqb-true}
use Rattle.std.specs.Prelude.{slice_get, if◌then◌else◌}
use Rattle.sem_words.specs.declared.word.Word.{Word}
use Rattle.sem_words.specs.declared.word.Word.TheVariants.{W32}
use Rattle.sem_words.specs.declared.word.TrapKind.TheVariants as kinds
use Rattle.sem_words.specs.declared.js_value.JsValue.{JsValue}
use Rattle.session_lang.specs.Observation.{trapped}
use Rattle.wasm_lang_exec.specs.Code.{ε, ◌▹◌, call, call_indirect}
use Rattle.wasm_lang_exec.specs.Store.{Store}
use Rattle.wasm_lang_exec.specs.Reductions.{Code, callee_at, of_type}
use Rattle.wasm_laws_drive.specs.Drive.{Ended, at, drive}
use Rattle.wasm_laws_drive.specs.Equations.{called, called_by}
use Rattle.wasm_laws_drive.proofs.Instructions.{call_enters, call_indirect_enters}
use Rattle.asm_lang.specs.Modules.{Function, Table, Module}
use Rattle.asm_lang_valid.specs.Scope.{Signature, a_function, a_table, signature_of, function_signature, first_member, module_meaning}
use Rattle.asm_lang_valid.specs.Refusal.{function_number}
use Rattle.asm_lang_valid.specs.Typing.{same, matches}
use Rattle.asm_lang_valid.specs.Typed.{is_power_of_two, same_signature, all_alike, alike}
use Rattle.asm_lang_exec.specs.Runs.{Part}
use Rattle.asm_lang_exec.specs.Values.{Calls}
use Rattle.asm_laws_sound.proofs.Members.{Typed, Good, accepted_is_typed, good_in_module}
use Rattle.asm2wasm_translation.specs.Numbers.{table_type, base_of}
use Rattle.asm2wasm_laws_run.specs.State.{words, store_of, EndsAlike, AnyValue, run_from}
use Rattle.asm2wasm_laws_run.proofs.Simulated.{sim_same}
use Rattle.asm2wasm_laws_preservation.specs.Kept.{values, result, Surroundings, Shown, Keeps}
use Rattle.asm2wasm_laws_preservation.specs.Made.{CallsKept, OwnKept, IsMade, number_of}
use Rattle.asm2wasm_laws_preservation.specs.Laws.{AllCallsAreKept}
use Rattle.asm2wasm_laws_preservation.proofs.Foreign.{keeps_foreign}
use Rattle.asm2wasm_laws_preservation.proofs.Called.{same_is}
use Rattle.asm2wasm_laws_preservation.proofs.Meant.{function_said}

-- ---- members of a table

all_members : (m : Module) (ns : List (List ℕ)) (o : Option Signature) (j : ℕ) (n : List ℕ) → all_alike m o ns ≡ true → slice_get ns j ≡ Some n → same_signature o (function_signature (module_meaning m n)) ≡ true
all_members m [] o j n h at = absurd (cc at)
all_members m (x ∷ ns) o zero n h at = let e : x ≡ n = cc at in subst (λ n. same_signature o (function_signature (module_meaning m n)) ≡ true) e (and_parts _ _ h).0
all_members m (x ∷ ns) o (suc j) n h at = all_members m ns o j n (and_parts _ _ h).1 at

first_is : (m : Module) (ns : List (List ℕ)) → alike m ns ≡ true → all_alike m (first_member m ns) ns ≡ true
first_is m [] h = refl
first_is m (n ∷ ns) h = h

-- what is asked of a table's call is asked of its member
pub record Asked (g : Function) (count : ℕ) (wanted : Bool) : Type 0 where
  pub many : count ≡ length g.params
  pub result_is : (signature_of g).result ≡ wanted

same_twice : (a b c : Bool) → same a b ≡ true → same b c ≡ true → c ≡ a
same_twice a b c h e = same_is b c e ∙ same_is a b h

asked : (o : Option Signature) (g : Function) (count : ℕ) (wanted : Bool) → matches o count wanted ≡ true → same_signature o (Some (signature_of g)) ≡ true → Asked g count wanted
asked None g count wanted h e = absurd (cc h)
asked (Some t) g count wanted h e =
    let p = and_parts _ _ h in
    let q = and_parts _ _ e in
    record { many = eqb-true count t.params p.0 ∙ eqb-true t.params (length g.params) q.0; result_is = same_twice wanted t.result (signature_of g).result p.1 q.1 }

module _ (s : Surroundings) (limit : ℕ) where
  -- ---- an entry is called as its function is

  called_alike : (i f type : ℕ) (stack locals : List Word) (st : Store) (k : ℕ) → slice_get st.table i ≡ Some (Some f) → of_type (slice_get s.target.types type) (callee_at s.target f) ≡ true
      → drive s.target k (Code (W32 i ∷ stack) (call_indirect type ▹ ε)) locals st ≡ drive s.target k (Code stack (call f ▹ ε)) locals st
  called_alike i f type stack locals st zero entry typed = call_indirect_enters s.target type ε (at (W32 i ∷ stack) locals st 0) ∙ sym (call_enters s.target f ε (at stack locals st 0))
  called_alike i f type stack locals st (suc k) entry typed =
      call_indirect_enters s.target type ε (at (W32 i ∷ stack) locals st (suc k))
      ∙ ap (λ e. called_by s.target type e ε (at stack locals st k)) entry
      ∙ ap (λ b. if b then called s.target (callee_at s.target f) ε (at stack locals st k) else Ended (trapped kinds.OtherType) st) typed
      ∙ sym (call_enters s.target f ε (at stack locals st (suc k)))

  keeps_indirect : {A : Type 0} (d i f type : ℕ) (from : List Word) (has : A → Type 0) (on : A → List Word) (part : Part A) → slice_get s.fixed.entries i ≡ Some (Some f) → of_type (slice_get s.target.types type) (callee_at s.target f) ≡ true
      → Keeps s limit d from has on (call f ▹ ε) part → Keeps s limit d (W32 i ∷ from) has on (call_indirect type ▹ ε) part
  keeps_indirect {A} d i f type from has on part entry typed k = record {
    by = λ p scratch stack h many few.
        sim_same s.worth (EndsAlike s.fixed s.home s.heap) A (Shown s d has on scratch stack) 1 p.units (run_from s.target s.fixed (W32 i ∷ (from ++ stack)) (call_indirect type ▹ ε) scratch p) (run_from s.target s.fixed (from ++ stack) (call f ▹ ε) scratch p) (part p)
        (λ n. called_alike i f type (from ++ stack) (words p.locals ++ scratch) (store_of s.fixed p) n entry typed)
        (k.by p scratch stack h many few);
  }

  -- ---- all calls

  pub all_kept : (calls : Calls) → Typed s.home → IsMade s.target s.fixed s.home → OwnKept s limit calls → CallsKept s limit calls
  all_kept calls ok made own = record {
    own = own;
    foreign = λ name wanted d vs listed. keeps_foreign s limit d name wanted vs (made.imports _ listed);
    places = made.places;
    entry = entry;
  }
    where
      entry : (n : List ℕ) (t : Table) (j : ℕ) (name : List ℕ) (g : Function) (wanted : Bool) → module_meaning s.home n ≡ a_table t → slice_get t.members j ≡ Some name → module_meaning s.home name ≡ a_function g
          → (d : ℕ) (vs : List JsValue) → matches (first_member s.home t.members) (length vs) wanted ≡ true
          → Keeps s limit d (W32 (base_of s.home n + j) ∷ values vs) AnyValue (result wanted) (call_indirect (table_type s.home t) ▹ ε) (calls g vs)
      entry n t j name g wanted is member is_function d vs fits =
          let good = subst (Good s.home) is (good_in_module s.home ok n) in
          let members = all_members s.home t.members (first_member s.home t.members) j name (first_is s.home t.members (and_parts (is_power_of_two (length t.members)) (alike s.home t.members) good.0).1) member in
          let a = asked (first_member s.home t.members) g (length vs) wanted fits (ap (λ mm. same_signature (first_member s.home t.members) (function_signature mm)) (sym is_function) ∙ members) in
          keeps_indirect d (base_of s.home n + j) (number_of s.home name) (table_type s.home t) (values vs) AnyValue (result wanted) (calls g vs) (made.entries n t j name g is member is_function) (made.types n t j name g is member is_function)
          (subst (λ r. Keeps s limit d (values vs) AnyValue (result r) (call (number_of s.home name) ▹ ε) (calls g vs)) a.result_is (own g (function_number s.home.functions name) (function_said s.home name g is_function) d vs a.many))

pub all_calls_are_kept : AllCallsAreKept
all_calls_are_kept s limit calls is made own = all_kept s limit calls (accepted_is_typed s.home is.accepted) made own
