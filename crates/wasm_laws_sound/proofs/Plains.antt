-- A plain instruction whose operands have the types that it takes leaves values of the types that it gives, or traps.
use Rattle.std.proofs.Common.{◌≡◌, ℕ, ◌+◌, ◌%◌, ◌^◌, List, [], ◌∷◌, ◌++◌, Option, None, Some, Result, Ok, Err, Bool, true, false, refl, sym, ap, ◌∙◌, subst, subst₂}
use Rattle.std.proofs.lemmas.Option.{slice_get-map}
use Rattle.std.specs.Prelude.{slice_get, option_map, ◌==◌, if◌then◌else◌}
use Rattle.sem_words.specs.declared.word.Word.{Word}
use Rattle.sem_words.specs.declared.word.Word.TheVariants.{W32, W64}
use Rattle.sem_words.specs.declared.word.TrapKind.{TrapKind}
use Rattle.sem_words.specs.Words.{bin_of, un_of, rel_of, extend_of}
use Rattle.heap_lang.proofs.RunLemmas.{length-copied, length-filled}
use Rattle.heap_lang.proofs.HeapLemmas.{length-store_bytes}
use Rattle.heap_lang.specs.Heap.{is_inside, load_bytes, can_copy}
use Rattle.wasm_lang.specs.declared.types.ValType.{ValType}
use Rattle.wasm_lang.specs.declared.types.ValType.TheVariants.{I32, I64}
use Rattle.wasm_lang.specs.declared.types.MemOp.{MemOp}
use Rattle.wasm_lang.specs.declared.types.GlobalType.{GlobalType}
use Rattle.wasm_lang.specs.Instructions.{Plain, nop, drop_operand, select, local_get, local_set, local_tee, global_get, global_set, load, store, memory_size, memory_copy, memory_fill, const32, const64, eqz32, eqz64, rel32, rel64, un32, un64, bin32, bin64, wrap, extend_s, extend_u, sign_extend}
use Rattle.wasm_lang.specs.Modules.{WasmModule}
use Rattle.wasm_lang_valid.specs.declared.rule.Rule.{Rule}
use Rattle.wasm_lang_valid.specs.declared.rule.Rule.TheVariants.{NoLocal, NoGlobal, NoMemory}
use Rattle.wasm_lang_valid.specs.ModuleRules.{global_types, has_memory}
use Rattle.wasm_lang_valid.specs.Typing.{Shape, Fixed, Leaves, AnyOne, TwoAlike, Acts, fixed, leaves, any_one, two_alike, found, unless, kind_of, plain_shape}
use Rattle.wasm_lang_exec.specs.Store.{Store}
use Rattle.wasm_lang_exec.specs.Plain.{Effect, flag, answer32, answer64, with32, with64, both32, both64, pushed, with_local, with_global, loaded, stored, copied_run, filled_run, store_wide, store_narrow, do_plain}
use Rattle.wasm_laws_sound.specs.Configurations.{HasType, HaveTypes, kinds, IsTypedStore, within, IsTypedEffect}
use Rattle.wasm_laws_sound.specs.Laws.{PlainIsTyped}
use Rattle.wasm_laws_sound.proofs.Values.{have_at, have_set}

-- ---- shapes

pub is_ok : {A : Type 0} (x y : A) → ◌≡◌ {A = Result A Rule} (Ok x) (Ok y) → x ≡ y
is_ok x y e = cc e

pub record IsFound {A B : Type 0} (o : Option A) (f : A → B) (y : B) : Type 0 where
  pub item : A
  pub is_there : o ≡ Some item
  pub gives : f item ≡ y

pub is_found : {A B : Type 0} (rule : Rule) (o : Option A) (f : A → B) (y : B) → found rule o f ≡ Ok y → IsFound o f y
is_found rule None f y e = cc e
is_found rule (Some x) f y e = record { item = x; is_there = refl; gives = cc e }

pub is_allowed : {A : Type 0} (b : Bool) (rule : Rule) (x y : A) → unless b rule x ≡ Ok y → x ≡ y
is_allowed true rule x y e = cc e
is_allowed false rule x y e = cc e

-- what a shape says of the lists that it takes and gives
abbrev pub ActsAs : Shape → List ValType → List ValType → Type 0
ActsAs (Fixed ts us) takes gives = (takes ≡ ts) × (gives ≡ us)
ActsAs (Leaves ts) takes gives = (below : List ValType) × (takes ≡ ts ++ below)
ActsAs AnyOne takes gives = (t : ValType) × (takes ≡ t ∷ []) × (gives ≡ [])
ActsAs TwoAlike takes gives = (t : ValType) × (takes ≡ I32 ∷ t ∷ t ∷ []) × (gives ≡ t ∷ [])

pub acts_as : {s : Shape} {takes gives : List ValType} → Acts s takes gives → ActsAs s takes gives
acts_as fixed = (refl, refl)
acts_as (leaves below after) = (below, refl)
acts_as (any_one {t = t}) = (t, refl, refl)
acts_as (two_alike {t = t}) = (t, refl, refl)

pub as_form : {s : Shape} {takes gives : List ValType} (form : Shape) → form ≡ s → Acts s takes gives → ActsAs form takes gives
as_form {takes = takes} {gives = gives} form e acts = subst (λ s. ActsAs s takes gives) (sym e) (acts_as acts)

-- ---- effects

word_typed : (wide : Bool) (n k : ℕ) → HasType (kind_of wide) (if wide then W64 n else W32 k)
word_typed true n k = tt
word_typed false n k = tt

module _ (m : WasmModule) (types below : List ValType) (locals : List Word) (s : Store) (have : HaveTypes types locals) (is_store : IsTypedStore m s) where
  abbrev Leads : Effect → List ValType → Type 0
  Leads e gives = IsTypedEffect m e types (gives ++ below)

  answer32_typed : (r : Result ℕ TrapKind) (values : List Word) → HaveTypes below values → Leads (answer32 r values locals s) (I32 ∷ [])
  answer32_typed (Ok n) values h = ((tt, h), have, is_store)
  answer32_typed (Err kind) values h = tt

  answer64_typed : (r : Result ℕ TrapKind) (values : List Word) → HaveTypes below values → Leads (answer64 r values locals s) (I64 ∷ [])
  answer64_typed (Ok n) values h = ((tt, h), have, is_store)
  answer64_typed (Err kind) values h = tt

  abbrev Answer : Type 0
  Answer = Result ℕ TrapKind → List Word → List Word → Store → Effect

  abbrev Answers : Answer → List ValType → Type 0
  Answers answer gives = (r : Result ℕ TrapKind) (values : List Word) → HaveTypes below values → Leads (answer r values locals s) gives

  with32_typed : (f : ℕ → Result ℕ TrapKind) (answer : Answer) (gives : List ValType) (values : List Word)
      → Answers answer gives → HaveTypes (I32 ∷ below) values → Leads (with32 f answer values locals s) gives
  with32_typed f answer gives (W32 a ∷ values) answers h = answers (f a) values h.1
  with32_typed f answer gives (W64 a ∷ values) answers h = absurd h.0
  with32_typed f answer gives [] answers h = absurd h

  with64_typed : (f : ℕ → Result ℕ TrapKind) (answer : Answer) (gives : List ValType) (values : List Word)
      → Answers answer gives → HaveTypes (I64 ∷ below) values → Leads (with64 f answer values locals s) gives
  with64_typed f answer gives (W64 a ∷ values) answers h = answers (f a) values h.1
  with64_typed f answer gives (W32 a ∷ values) answers h = absurd h.0
  with64_typed f answer gives [] answers h = absurd h

  both32_typed : (f : ℕ → ℕ → Result ℕ TrapKind) (values : List Word) → HaveTypes (I32 ∷ I32 ∷ below) values → Leads (both32 f values locals s) (I32 ∷ [])
  both32_typed f (W32 b ∷ W32 a ∷ values) h = answer32_typed (f a b) values h.1.1
  both32_typed f (W32 b ∷ W64 a ∷ values) h = absurd h.1.0
  both32_typed f (W32 b ∷ []) h = absurd h.1
  both32_typed f (W64 b ∷ values) h = absurd h.0
  both32_typed f [] h = absurd h

  both64_typed : (f : ℕ → ℕ → Result ℕ TrapKind) (answer : Answer) (gives : List ValType) (values : List Word)
      → Answers answer gives → HaveTypes (I64 ∷ I64 ∷ below) values → Leads (both64 f answer values locals s) gives
  both64_typed f answer gives (W64 b ∷ W64 a ∷ values) answers h = answers (f a b) values h.1.1
  both64_typed f answer gives (W64 b ∷ W32 a ∷ values) answers h = absurd h.1.0
  both64_typed f answer gives (W64 b ∷ []) answers h = absurd h.1
  both64_typed f answer gives (W32 b ∷ values) answers h = absurd h.0
  both64_typed f answer gives [] answers h = absurd h

  -- ---- variables

  get_typed : (x : ℕ) (t : ValType) (values : List Word) → slice_get types x ≡ Some t → HaveTypes below values → Leads (pushed (slice_get locals x) values locals s) (t ∷ [])
  get_typed x t values e h =
      let it = have_at types locals x t have e in
      subst (λ o. Leads (pushed o values locals s) (t ∷ [])) (sym it.is_there) ((it.has, h), have, is_store)

  set_typed : (x : ℕ) (t : ValType) (v : Word) (gives : List ValType) (values : List Word)
      → slice_get types x ≡ Some t → HasType t v → HaveTypes (gives ++ below) values → Leads (with_local x v values (slice_get locals x) locals s) gives
  set_typed x t v gives values e has h =
      let it = have_at types locals x t have e in
      subst (λ o. Leads (with_local x v values o locals s) gives) (sym it.is_there) (h, have_set types locals x t v have e has, is_store)

  global_kind : (x : ℕ) (g : GlobalType) → slice_get (global_types m) x ≡ Some g → slice_get (kinds (global_types m)) x ≡ Some g.kind
  global_kind x g e = slice_get-map (λ (g : GlobalType). g.kind) (global_types m) x ∙ ap (option_map (λ (g : GlobalType). g.kind)) e

  get_global_typed : (x : ℕ) (g : GlobalType) (values : List Word) → slice_get (global_types m) x ≡ Some g → HaveTypes below values → Leads (pushed (slice_get s.globals x) values locals s) (g.kind ∷ [])
  get_global_typed x g values e h =
      let it = have_at (kinds (global_types m)) s.globals x g.kind is_store.0 (global_kind x g e) in
      subst (λ o. Leads (pushed o values locals s) (g.kind ∷ [])) (sym it.is_there) ((it.has, h), have, is_store)

  set_global_typed : (x : ℕ) (g : GlobalType) (values : List Word) (v : Word)
      → slice_get (global_types m) x ≡ Some g → HasType g.kind v → HaveTypes below values → Leads (with_global x v values (slice_get s.globals x) locals s) []
  set_global_typed x g values v e has h =
      let it = have_at (kinds (global_types m)) s.globals x g.kind is_store.0 (global_kind x g e) in
      subst (λ o. Leads (with_global x v values o locals s) []) (sym it.is_there)
      (h, have, (have_set (kinds (global_types m)) s.globals x g.kind v is_store.0 (global_kind x g e) has, is_store.1, is_store.2))

  -- ---- memory

  loaded_typed : (op : MemOp) (o : Option ℕ) (values : List Word) → HaveTypes below values → Leads (loaded op o values locals s) (kind_of op.wide ∷ [])
  loaded_typed op None values h = tt
  loaded_typed op (Some n) values h = ((word_typed op.wide _ _, h), have, is_store)

  load_typed : (op : MemOp) (align offset : ℕ) (values : List Word) → HaveTypes (I32 ∷ below) values → Leads (do_plain (load op align offset) values locals s) (kind_of op.wide ∷ [])
  load_typed op align offset (W32 a ∷ values) h = loaded_typed op (load_bytes (a + offset) op.size s.memory) values h.1
  load_typed op align offset (W64 a ∷ values) h = absurd h.0
  load_typed op align offset [] h = absurd h

  stored_typed : (inside : Bool) (at size word : ℕ) (values : List Word) → HaveTypes below values → Leads (stored inside at size word values locals s) []
  stored_typed true at size word values h = (h, have, (is_store.0, is_store.1, length-store_bytes at size word s.memory ∙ is_store.2))
  stored_typed false at size word values h = tt

  store_typed : (wide : Bool) (offset : ℕ) (op : MemOp) (values : List Word)
      → HaveTypes (kind_of wide ∷ I32 ∷ below) values → Leads (if wide then store_wide offset op values locals s else store_narrow offset op values locals s) []
  store_typed true offset op (W64 v ∷ W32 a ∷ values) h = stored_typed (is_inside (a + offset) op.size s.memory) (a + offset) op.size v values h.1.1
  store_typed true offset op (W64 v ∷ W64 a ∷ values) h = absurd h.1.0
  store_typed true offset op (W64 v ∷ []) h = absurd h.1
  store_typed true offset op (W32 v ∷ values) h = absurd h.0
  store_typed true offset op [] h = absurd h
  store_typed false offset op (W32 v ∷ W32 a ∷ values) h = stored_typed (is_inside (a + offset) op.size s.memory) (a + offset) op.size v values h.1.1
  store_typed false offset op (W32 v ∷ W64 a ∷ values) h = absurd h.1.0
  store_typed false offset op (W32 v ∷ []) h = absurd h.1
  store_typed false offset op (W64 v ∷ values) h = absurd h.0
  store_typed false offset op [] h = absurd h

  copied_typed : (inside : Bool) (at from len : ℕ) (values : List Word) → HaveTypes below values → Leads (copied_run inside at from len values locals s) []
  copied_typed true at from len values h = (h, have, (is_store.0, is_store.1, length-copied at from len s.memory ∙ is_store.2))
  copied_typed false at from len values h = tt

  filled_typed : (inside : Bool) (at byte len : ℕ) (values : List Word) → HaveTypes below values → Leads (filled_run inside at byte len values locals s) []
  filled_typed true at byte len values h = (h, have, (is_store.0, is_store.1, length-filled at len byte s.memory ∙ is_store.2))
  filled_typed false at byte len values h = tt

  copy_typed : (values : List Word) → HaveTypes (I32 ∷ I32 ∷ I32 ∷ below) values → Leads (do_plain memory_copy values locals s) []
  copy_typed (W32 len ∷ W32 from ∷ W32 at ∷ values) h = copied_typed (can_copy at from len s.memory) at from len values h.1.1.1
  copy_typed (W32 len ∷ W32 from ∷ W64 at ∷ values) h = absurd h.1.1.0
  copy_typed (W32 len ∷ W32 from ∷ []) h = absurd h.1.1
  copy_typed (W32 len ∷ W64 from ∷ values) h = absurd h.1.0
  copy_typed (W32 len ∷ []) h = absurd h.1
  copy_typed (W64 len ∷ values) h = absurd h.0
  copy_typed [] h = absurd h

  fill_typed : (values : List Word) → HaveTypes (I32 ∷ I32 ∷ I32 ∷ below) values → Leads (do_plain memory_fill values locals s) []
  fill_typed (W32 len ∷ W32 byte ∷ W32 at ∷ values) h = filled_typed (is_inside at len s.memory) at (byte % 256) len values h.1.1.1
  fill_typed (W32 len ∷ W32 byte ∷ W64 at ∷ values) h = absurd h.1.1.0
  fill_typed (W32 len ∷ W32 byte ∷ []) h = absurd h.1.1
  fill_typed (W32 len ∷ W64 byte ∷ values) h = absurd h.1.0
  fill_typed (W32 len ∷ []) h = absurd h.1
  fill_typed (W64 len ∷ values) h = absurd h.0
  fill_typed [] h = absurd h

  -- ---- operands of any type

  drop_typed : (t : ValType) (values : List Word) → HaveTypes (t ∷ below) values → Leads (do_plain drop_operand values locals s) []
  drop_typed t (v ∷ values) h = (h.1, have, is_store)
  drop_typed t [] h = absurd h

  chosen_typed : (t : ValType) (c : Bool) (a b : Word) → HasType t a → HasType t b → HasType t (if c then b else a)
  chosen_typed t true a b h i = i
  chosen_typed t false a b h i = h

  select_typed : (t : ValType) (values : List Word) → HaveTypes (I32 ∷ t ∷ t ∷ below) values → Leads (do_plain select values locals s) (t ∷ [])
  select_typed t (W32 c ∷ b ∷ a ∷ values) h = ((chosen_typed t (c == 0) a b h.1.1.0 h.1.0, h.1.1.1), have, is_store)
  select_typed t (W32 c ∷ b ∷ []) h = absurd h.1.1
  select_typed t (W32 c ∷ []) h = absurd h.1
  select_typed t (W64 c ∷ values) h = absurd h.0
  select_typed t [] h = absurd h

  -- ---- each instruction

  abbrev Moves : Plain → List Word → List ValType → List ValType → Type 0
  Moves p values takes gives = HaveTypes (takes ++ below) values → Leads (do_plain p values locals s) gives

  abbrev AsFixed : Plain → List Word → List ValType → List ValType → Shape → List ValType → List ValType → Type 0
  AsFixed p values ts us form takes gives = Fixed ts us ≡ form → Acts form takes gives → Moves p values ts us → Moves p values takes gives

  by_fixed : (p : Plain) (values : List Word) (ts us : List ValType) {form : Shape} {takes gives : List ValType} → AsFixed p values ts us form takes gives
  by_fixed p values ts us e acts moves =
      let lists = as_form (Fixed ts us) e acts in
      subst₂ (Moves p values) (sym lists.0) (sym lists.1) moves

  module _ (labels : List (Option ValType)) (result : Option ValType) where
    pub plain_typed : (p : Plain) (values : List Word) {form : Shape} {takes gives : List ValType}
        → plain_shape (within m types labels result) p ≡ Ok form → Acts form takes gives → Moves p values takes gives
    plain_typed nop values is acts = by_fixed nop values [] [] (is_ok _ _ is) acts (λ h. (h, have, is_store))
    plain_typed drop_operand values is acts =
        let lists = as_form AnyOne (is_ok _ _ is) acts in
        subst₂ (Moves drop_operand values) (sym lists.1) (sym lists.2) (drop_typed lists.0 values)
    plain_typed select values is acts =
        let lists = as_form TwoAlike (is_ok _ _ is) acts in
        subst₂ (Moves select values) (sym lists.1) (sym lists.2) (select_typed lists.0 values)
    plain_typed (local_get x) values is acts =
        let it = is_found NoLocal (slice_get types x) (λ t. Fixed [] (t ∷ [])) _ is in
        by_fixed (local_get x) values [] (it.item ∷ []) it.gives acts (get_typed x it.item values it.is_there)
    plain_typed (local_set x) [] is acts =
        let it = is_found NoLocal (slice_get types x) (λ t. Fixed (t ∷ []) []) _ is in
        by_fixed (local_set x) [] (it.item ∷ []) [] it.gives acts (λ h. absurd h)
    plain_typed (local_set x) (v ∷ values) is acts =
        let it = is_found NoLocal (slice_get types x) (λ t. Fixed (t ∷ []) []) _ is in
        by_fixed (local_set x) (v ∷ values) (it.item ∷ []) [] it.gives acts (λ h. set_typed x it.item v [] values it.is_there h.0 h.1)
    plain_typed (local_tee x) [] is acts =
        let it = is_found NoLocal (slice_get types x) (λ t. Fixed (t ∷ []) (t ∷ [])) _ is in
        by_fixed (local_tee x) [] (it.item ∷ []) (it.item ∷ []) it.gives acts (λ h. absurd h)
    plain_typed (local_tee x) (v ∷ values) is acts =
        let it = is_found NoLocal (slice_get types x) (λ t. Fixed (t ∷ []) (t ∷ [])) _ is in
        by_fixed (local_tee x) (v ∷ values) (it.item ∷ []) (it.item ∷ []) it.gives acts (λ h. set_typed x it.item v (it.item ∷ []) (v ∷ values) it.is_there h.0 h)
    plain_typed (global_get x) values is acts =
        let it = is_found NoGlobal (slice_get (global_types m) x) (λ (g : GlobalType). Fixed [] (g.kind ∷ [])) _ is in
        by_fixed (global_get x) values [] (it.item.kind ∷ []) it.gives acts (get_global_typed x it.item values it.is_there)
    plain_typed (global_set x) [] is acts =
        let it = is_found NoGlobal (slice_get (global_types m) x) (λ (g : GlobalType). Fixed (g.kind ∷ []) []) _ is in
        by_fixed (global_set x) [] (it.item.kind ∷ []) [] it.gives acts (λ h. absurd h)
    plain_typed (global_set x) (v ∷ values) is acts =
        let it = is_found NoGlobal (slice_get (global_types m) x) (λ (g : GlobalType). Fixed (g.kind ∷ []) []) _ is in
        by_fixed (global_set x) (v ∷ values) (it.item.kind ∷ []) [] it.gives acts (λ h. set_global_typed x it.item values v it.is_there h.0 h.1)
    plain_typed (load op align offset) values is acts =
        by_fixed (load op align offset) values (I32 ∷ []) (kind_of op.wide ∷ []) (is_allowed (has_memory m) NoMemory _ _ is) acts (load_typed op align offset values)
    plain_typed (store op align offset) values is acts =
        by_fixed (store op align offset) values (kind_of op.wide ∷ I32 ∷ []) [] (is_allowed (has_memory m) NoMemory _ _ is) acts (store_typed op.wide offset op values)
    plain_typed memory_size values is acts =
        by_fixed memory_size values [] (I32 ∷ []) (is_allowed (has_memory m) NoMemory _ _ is) acts (λ h. ((tt, h), have, is_store))
    plain_typed memory_copy values is acts =
        by_fixed memory_copy values (I32 ∷ I32 ∷ I32 ∷ []) [] (is_allowed (has_memory m) NoMemory _ _ is) acts (copy_typed values)
    plain_typed memory_fill values is acts =
        by_fixed memory_fill values (I32 ∷ I32 ∷ I32 ∷ []) [] (is_allowed (has_memory m) NoMemory _ _ is) acts (fill_typed values)
    plain_typed (const32 n) values is acts = by_fixed (const32 n) values [] (I32 ∷ []) (is_ok _ _ is) acts (λ h. ((tt, h), have, is_store))
    plain_typed (const64 n) values is acts = by_fixed (const64 n) values [] (I64 ∷ []) (is_ok _ _ is) acts (λ h. ((tt, h), have, is_store))
    plain_typed eqz32 values is acts =
        by_fixed eqz32 values (I32 ∷ []) (I32 ∷ []) (is_ok _ _ is) acts (with32_typed (λ a. Ok (flag (a == 0))) answer32 (I32 ∷ []) values answer32_typed)
    plain_typed eqz64 values is acts =
        by_fixed eqz64 values (I64 ∷ []) (I32 ∷ []) (is_ok _ _ is) acts (with64_typed (λ a. Ok (flag (a == 0))) answer32 (I32 ∷ []) values answer32_typed)
    plain_typed (rel32 op) values is acts =
        by_fixed (rel32 op) values (I32 ∷ I32 ∷ []) (I32 ∷ []) (is_ok _ _ is) acts (both32_typed (λ a b. Ok (flag (rel_of 32 op a b))) values)
    plain_typed (rel64 op) values is acts =
        by_fixed (rel64 op) values (I64 ∷ I64 ∷ []) (I32 ∷ []) (is_ok _ _ is) acts (both64_typed (λ a b. Ok (flag (rel_of 64 op a b))) answer32 (I32 ∷ []) values answer32_typed)
    plain_typed (un32 op) values is acts =
        by_fixed (un32 op) values (I32 ∷ []) (I32 ∷ []) (is_ok _ _ is) acts (with32_typed (λ a. Ok (un_of 32 op a)) answer32 (I32 ∷ []) values answer32_typed)
    plain_typed (un64 op) values is acts =
        by_fixed (un64 op) values (I64 ∷ []) (I64 ∷ []) (is_ok _ _ is) acts (with64_typed (λ a. Ok (un_of 64 op a)) answer64 (I64 ∷ []) values answer64_typed)
    plain_typed (bin32 op) values is acts = by_fixed (bin32 op) values (I32 ∷ I32 ∷ []) (I32 ∷ []) (is_ok _ _ is) acts (both32_typed (bin_of 32 op) values)
    plain_typed (bin64 op) values is acts =
        by_fixed (bin64 op) values (I64 ∷ I64 ∷ []) (I64 ∷ []) (is_ok _ _ is) acts (both64_typed (bin_of 64 op) answer64 (I64 ∷ []) values answer64_typed)
    plain_typed wrap values is acts =
        by_fixed wrap values (I64 ∷ []) (I32 ∷ []) (is_ok _ _ is) acts (with64_typed (λ a. Ok (a % 2 ^ 32)) answer32 (I32 ∷ []) values answer32_typed)
    plain_typed extend_s values is acts =
        by_fixed extend_s values (I32 ∷ []) (I64 ∷ []) (is_ok _ _ is) acts (with32_typed (λ a. Ok (extend_of 64 32 a)) answer64 (I64 ∷ []) values answer64_typed)
    plain_typed extend_u values is acts =
        by_fixed extend_u values (I32 ∷ []) (I64 ∷ []) (is_ok _ _ is) acts (with32_typed (λ a. Ok a) answer64 (I64 ∷ []) values answer64_typed)
    plain_typed (sign_extend true bits) values is acts =
        by_fixed (sign_extend true bits) values (I64 ∷ []) (I64 ∷ []) (is_ok _ _ is) acts (with64_typed (λ a. Ok (extend_of 64 bits a)) answer64 (I64 ∷ []) values answer64_typed)
    plain_typed (sign_extend false bits) values is acts =
        by_fixed (sign_extend false bits) values (I32 ∷ []) (I32 ∷ []) (is_ok _ _ is) acts (with32_typed (λ a. Ok (extend_of 32 bits a)) answer32 (I32 ∷ []) values answer32_typed)

pub plain_is_typed : PlainIsTyped
plain_is_typed m p form takes gives below types labels result is acts values locals s h have is_store = plain_typed m types below locals s have is_store labels result p values is acts h
