-- Segments with constant offsets: what they put into a table and a memory, and that none lies outside.
use Rattle.std.proofs.Common.{◌≡◌, ℕ, zero, suc, ◌+◌, ◌≤◌, Bool, true, false, List, [], ◌∷◌, ◌++◌, length, map, take, drop, Option, Some, None, refl, sym, ap, ◌∙◌, subst, arith, length-append}
use Rattle.std.proofs.lemmas.Bool.{and_from}
use Rattle.std.proofs.lemmas.List.{length-take, length-drop, length-map}
use Rattle.sem_words.specs.declared.word.Word.{Word}
use Rattle.heap_lang.specs.Heap.{with_run}
use Rattle.heap_lang.proofs.RunLemmas.{is_inside_within}
use Rattle.wasm_lang.specs.declared.types.ValType.TheVariants.{I32}
use Rattle.wasm_lang.specs.Instructions.{Instruction, plain, const32, const64, global_get}
use Rattle.wasm_lang.specs.Modules.{ElementSegment, DataSegment, WasmModule}
use Rattle.wasm_lang_valid.specs.declared.rule.Rule.TheVariants.{Initializer}
use Rattle.wasm_lang_valid.specs.ModuleRules.{is_end, value_rule, init_rule}
use Rattle.wasm_lang_valid.specs.Profile.{or_zero, where_so, is_global_offset, constant_offset, passes, outside_memory, segment_outside}
use Rattle.wasm_lang_exec.specs.Store.{Store}
use Rattle.wasm_lang_exec.specs.Session.{replaced, value_of, place_of, offset_of, entries_fit, bytes_fit, with_entries, with_bytes}
use Rattle.wasm_link_laws_modules.proofs.Facts.{Every, every_less, meets_rest, lt_false, le_test}

-- ---- offsets

-- the offset is a constant, and so much lies inside from there
abbrev pub Lies : (room : ℕ) → List Instruction → (size : ℕ) → Type 0
Lies room is size = (n : ℕ) × (constant_offset is ≡ Some n) × (n + size ≤ room)

abbrev pub place : List Instruction → ℕ
place is = or_zero (constant_offset is)

constant_place : (globals : List Word) (is : List Instruction) (n : ℕ) → constant_offset is ≡ Some n → place_of (value_of globals is) ≡ n
constant_place globals [] n h = absurd (cc h)
constant_place globals (plain (const32 k) ∷ is) n h = cc h
constant_place globals (plain p ∷ is) n h = absurd (cc h)
constant_place globals (i ∷ is) n h = absurd (cc h)

pub place_is : (s : Store) (is : List Instruction) (room size : ℕ) → Lies room is size → offset_of s is ≡ place is
place_is s is room size it = constant_place s.globals is it.0 it.1 ∙ sym (ap or_zero it.1)

pub place_lies : (is : List Instruction) (room size : ℕ) → Lies room is size → place is + size ≤ room
place_lies is room size it =
    let e = ap or_zero it.1 in
    let h = it.2 in omega (arith, e, h)

-- an offset that isn't a global is a constant
pub constant_there : (m : WasmModule) (is : List Instruction) → is_global_offset is ≡ false → init_rule m I32 is ≡ None → (n : ℕ) × (constant_offset is ≡ Some n)
constant_there m [] g e = absurd (cc e)
constant_there m (i ∷ []) g e = absurd (cc e)
constant_there m (i ∷ j ∷ k ∷ is) g e = absurd (cc e)
constant_there m (plain (global_get x) ∷ j ∷ []) g e = absurd (cc g)
constant_there m (plain (const32 k) ∷ j ∷ []) g e = (k, refl)
constant_there m (plain (const64 k) ∷ j ∷ []) g e = let s = meets_rest (is_end j) Initializer (value_rule m I32 (plain (const64 k))) e in absurd (cc s)
constant_there m (i ∷ j ∷ []) g e = let s = meets_rest (is_end j) Initializer (value_rule m I32 i) e in absurd (cc s)

not_past : (o : Option ℕ) (n size room : ℕ) → o ≡ Some n → passes o size room ≡ false → n + size ≤ room
not_past None n size room e h = absurd (cc e)
not_past (Some k) n size room e h =
    let same : k ≡ n = cc e in
    let inside = lt_false room (k + size) h in omega (arith, same, inside)

is_not_so : (b : Bool) (n : ℕ) (o : Option ℕ) → where_so b n o ≡ None → (b ≡ false) × (o ≡ None)
is_not_so true n o e = absurd (cc e)
is_not_so false n o e = (refl, e)

-- ---- none lies outside

abbrev pub DataLies : ℕ → DataSegment → Type 0
DataLies room d = Lies room d.offset (length d.bytes)

abbrev pub ElementLies : ℕ → ElementSegment → Type 0
ElementLies room e = Lies room e.offset (length e.functions)

module _ (m : WasmModule) where
  data_lies : (bytes n : ℕ) (ds : List DataSegment) → outside_memory bytes n ds ≡ None → Every (λ (d : DataSegment). is_global_offset d.offset ≡ false) ds
      → Every (λ (d : DataSegment). init_rule m I32 d.offset ≡ None) ds → Every (DataLies bytes) ds
  data_lies bytes n [] e constant fine i x h = absurd (cc h)
  data_lies bytes n (d ∷ ds) e constant fine zero x h =
      let s = is_not_so (passes (constant_offset d.offset) (length d.bytes) bytes) n (outside_memory bytes (n + 1) ds) e in
      let c = constant_there m d.offset (constant 0 d refl) (fine 0 d refl) in
      let same : d ≡ x = cc h in
      subst (DataLies bytes) same (c.0, c.1, not_past (constant_offset d.offset) c.0 (length d.bytes) bytes c.1 s.0)
  data_lies bytes n (d ∷ ds) e constant fine (suc i) x h =
      let s = is_not_so (passes (constant_offset d.offset) (length d.bytes) bytes) n (outside_memory bytes (n + 1) ds) e in
      data_lies bytes (n + 1) ds s.1 (every_less (λ (d : DataSegment). is_global_offset d.offset ≡ false) d ds constant) (every_less (λ (d : DataSegment). init_rule m I32 d.offset ≡ None) d ds fine) i x h

  pub segments_lie : (room bytes n : ℕ) (es : List ElementSegment) (ds : List DataSegment) → segment_outside room bytes n es ds ≡ None
      → Every (λ (d : DataSegment). is_global_offset d.offset ≡ false) ds → Every (λ (d : DataSegment). init_rule m I32 d.offset ≡ None) ds → Every (DataLies bytes) ds
  segments_lie room bytes n [] ds e constant fine = data_lies bytes n ds e constant fine
  segments_lie room bytes n (x ∷ es) ds e constant fine =
      segments_lie room bytes (n + 1) es ds (is_not_so (passes (constant_offset x.offset) (length x.functions) room) n (segment_outside room bytes (n + 1) es ds) e).1 constant fine

  pub elements_lie : (room bytes n : ℕ) (es : List ElementSegment) (ds : List DataSegment) → segment_outside room bytes n es ds ≡ None
      → Every (λ (e : ElementSegment). is_global_offset e.offset ≡ false) es → Every (λ (e : ElementSegment). init_rule m I32 e.offset ≡ None) es → Every (ElementLies room) es
  elements_lie room bytes n [] ds e constant fine i x h = absurd (cc h)
  elements_lie room bytes n (y ∷ es) ds e constant fine zero x h =
      let s = is_not_so (passes (constant_offset y.offset) (length y.functions) room) n (segment_outside room bytes (n + 1) es ds) e in
      let c = constant_there m y.offset (constant 0 y refl) (fine 0 y refl) in
      let same : y ≡ x = cc h in
      subst (ElementLies room) same (c.0, c.1, not_past (constant_offset y.offset) c.0 (length y.functions) room c.1 s.0)
  elements_lie room bytes n (y ∷ es) ds e constant fine (suc i) x h =
      let s = is_not_so (passes (constant_offset y.offset) (length y.functions) room) n (segment_outside room bytes (n + 1) es ds) e in
      elements_lie room bytes (n + 1) es ds s.1 (every_less (λ (e : ElementSegment). is_global_offset e.offset ≡ false) y es constant) (every_less (λ (e : ElementSegment). init_rule m I32 e.offset ≡ None) y es fine) i x h

pub data_fits : (s : Store) (room : ℕ) (ds : List DataSegment) → length s.memory ≡ room → Every (DataLies room) ds → bytes_fit s ds ≡ true
data_fits s room [] many lies = refl
data_fits s room (d ∷ ds) many lies =
    let e = place_is s d.offset room (length d.bytes) (lies 0 d refl) in
    let h = place_lies d.offset room (length d.bytes) (lies 0 d refl) in
    and_from _ (bytes_fit s ds) (is_inside_within (offset_of s d.offset) (length d.bytes) s.memory (omega (arith, e, h, many))) (data_fits s room ds many (every_less (DataLies room) d ds lies))

pub elements_fit : (s : Store) (room : ℕ) (es : List ElementSegment) → length s.table ≡ room → Every (ElementLies room) es → entries_fit s es ≡ true
elements_fit s room [] many lies = refl
elements_fit s room (x ∷ es) many lies =
    let e = place_is s x.offset room (length x.functions) (lies 0 x refl) in
    let h = place_lies x.offset room (length x.functions) (lies 0 x refl) in
    and_from _ (entries_fit s es) (le_test (offset_of s x.offset + length x.functions) (length s.table) (omega (arith, e, h, many))) (elements_fit s room es many (every_less (ElementLies room) x es lies))

-- ---- what they put in

abbrev pub put_in : List DataSegment → List ℕ → List ℕ
put_in [] memory = memory
put_in (d ∷ ds) memory = put_in ds (with_run (place d.offset) d.bytes memory)

abbrev pub fill : List ElementSegment → List (Option ℕ) → List (Option ℕ)
fill [] table = table
fill (e ∷ es) table = fill es (replaced (place e.offset) (map Some e.functions) table)

pub bytes_only : (room : ℕ) (ds : List DataSegment) (s : Store) → Every (DataLies room) ds → with_bytes ds s ≡ record s { memory = put_in ds s.memory }
bytes_only room [] s lies = refl
bytes_only room (d ∷ ds) s lies =
    bytes_only room ds (record s { memory = with_run (offset_of s d.offset) d.bytes s.memory }) (every_less (DataLies room) d ds lies)
    ∙ ap (λ at. record s { memory = put_in ds (with_run at d.bytes s.memory) }) (place_is s d.offset room (length d.bytes) (lies 0 d refl))

pub entries_only : (room : ℕ) (es : List ElementSegment) (s : Store) → Every (ElementLies room) es → with_entries es s ≡ record s { table = fill es s.table }
entries_only room [] s lies = refl
entries_only room (e ∷ es) s lies =
    entries_only room es (record s { table = replaced (offset_of s e.offset) (map Some e.functions) s.table }) (every_less (ElementLies room) e es lies)
    ∙ ap (λ at. record s { table = fill es (replaced at (map Some e.functions) s.table) }) (place_is s e.offset room (length e.functions) (lies 0 e refl))

pub put_joins : (ds more : List DataSegment) (memory : List ℕ) → put_in (ds ++ more) memory ≡ put_in more (put_in ds memory)
put_joins [] more memory = refl
put_joins (d ∷ ds) more memory = put_joins ds more (with_run (place d.offset) d.bytes memory)

pub fill_joins : (es more : List ElementSegment) (table : List (Option ℕ)) → fill (es ++ more) table ≡ fill more (fill es table)
fill_joins [] more table = refl
fill_joins (e ∷ es) more table = fill_joins es more (replaced (place e.offset) (map Some e.functions) table)

pub many_replaced : {A : Type 0} → (at : ℕ) (new old : List A) → at + length new ≤ length old → length (replaced at new old) ≡ length old
many_replaced at new old h =
    let a = length-append (take at old) (new ++ drop (at + length new) old) in
    let b = length-append new (drop (at + length new) old) in
    let c = length-take at old in
    let d = length-drop (at + length new) old in omega (arith, a, b, c, d, h)

pub many_filled : (room : ℕ) (es : List ElementSegment) (table : List (Option ℕ)) → length table ≡ room → Every (ElementLies room) es → length (fill es table) ≡ room
many_filled room [] table many lies = many
many_filled room (e ∷ es) table many lies =
    let h = place_lies e.offset room (length e.functions) (lies 0 e refl) in
    let some = length-map e.functions (λ (x : ℕ). Some x) in
    let same = many_replaced (place e.offset) (map Some e.functions) table (omega (arith, h, some, many)) in
    many_filled room es (replaced (place e.offset) (map Some e.functions) table) (same ∙ many) (every_less (ElementLies room) e es lies)
