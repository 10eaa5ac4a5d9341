-- One construct at a time, where its parts are kept.
use Rattle.std.proofs.Common.{◌≡◌, ℕ, ◌+◌, ◌≤◌, Bool, true, false, ◌&&◌, ◌||◌, [], ◌∷◌, Some, option_and_then, ℤ, refl, sym, ap, ◌∙◌, subst, ⊎_elim, arith}
use Rattle.std.proofs.lemmas.Bool.{and_parts, or_cases}
use Rattle.std.specs.Prelude.{if◌then◌else◌}
use Rattle.sem_words.specs.declared.word.Bin.TheVariants as bins
use Rattle.sem_words.specs.declared.word.Rel.TheVariants as rels
use Rattle.sem_words.specs.declared.word.Word.TheVariants.{W32}
use Rattle.sem_words.specs.declared.js_value.JsValue.{JsValue}
use Rattle.sem_words.specs.declared.js_value.JsValue.TheVariants.{Whole}
use Rattle.sem_words.specs.declared.js_value.JsOp.{JsOp}
use Rattle.sem_words.specs.declared.js_value.JsOp.TheVariants.{Add, Sub, Mul, Div, Rem, Or, And, Xor, Shl, Sar, Shr, Lt, Le, Gt, Ge, Eq, Ne}
use Rattle.sem_words.specs.JsOperators.{js_binary_of}
use Rattle.heap_lang.specs.Heap.{IsHeapLength}
use Rattle.wasm_lang_exec.specs.Code.{Trees, ◌⊕◌}
use Rattle.asm_types.specs.declared.value_type.ValueType.{ValueType}
use Rattle.asm_types.specs.declared.value_type.ValueType.TheVariants.{Signed, Unsigned, Int}
use Rattle.asm_types.specs.Rows.{row, accepts, alike, takes_of, binary_row_of}
use Rattle.asm_types.specs.Values.{fits_of}
use Rattle.asm_types.proofs.Sound.{wider, from_row}
use Rattle.asm_lang.specs.Modules.{Expr, lit, binary}
use Rattle.asm_lang_valid.specs.declared.meaning.Element.{Element}
use Rattle.asm_lang_valid.specs.Scope.{shift_of, Meaning, a_view}
use Rattle.asm_lang_valid.specs.Refusal.{has_heap}
use Rattle.asm_lang_valid.specs.Typing.{Scope, is_call, type_of, call_fits, operated, index_form, index_fits, bare_index}
use Rattle.asm_lang_exec.specs.Runs.{Part, and_then, defined}
use Rattle.asm_lang_exec.specs.Values.{read_element, write_element}
use Rattle.asm_laws_sound.proofs.Expressions.{from_bind, Valued, IndexOf}
use Rattle.asm_laws_sound.proofs.Names.{literal_below}
use Rattle.asm2wasm_translation.specs.Values.{operator, load_code, store_code, stored_code}
use Rattle.asm2wasm_laws_heap.specs.Guards.{IsPlace}
use Rattle.asm2wasm_laws_words.specs.Laws.{compared, is_unsigned_type}
use Rattle.asm2wasm_laws_words.proofs.Formed.{alike_by_one}
use Rattle.asm2wasm_laws_run.specs.State.{AnyValue, IsIndex}
use Rattle.asm2wasm_laws_preservation.specs.Kept.{word, a_value, result, Surroundings, Keeps}
use Rattle.asm2wasm_laws_preservation.specs.Made.{Within}
use Rattle.asm2wasm_laws_preservation.proofs.Joined.{keeps_then, keeps_over}
use Rattle.asm2wasm_laws_preservation.proofs.Operated.{keeps_word, keeps_relation}
use Rattle.asm2wasm_laws_preservation.proofs.Scratch.{scratch_x, scratch_y}
use Rattle.asm2wasm_laws_preservation.proofs.Divided.{keeps_quotient, keeps_remainder}
use Rattle.asm2wasm_laws_preservation.proofs.Elements.{keeps_load, keeps_store}

-- ---- operands that are alike

pub record Alike (unsigned : Bool) (v w : JsValue) : Type 0 where
  pub first : fits_of (compared unsigned) v ≡ true
  pub second : fits_of (compared unsigned) w ≡ true

alike_fits : (a b t r : ValueType) (unsigned : Bool) (v w : JsValue) → unsigned ≡ (is_unsigned_type a || is_unsigned_type b) → row (accepts alike a b) r ≡ Some t → fits_of a v ≡ true → fits_of b w ≡ true → Alike unsigned v w
alike_fits a b t r unsigned v w e h f g =
    let top = compared (is_unsigned_type a || is_unsigned_type b) in
    let p = and_parts _ _ (alike_by_one a b (from_row (accepts alike a b) r t h).0) in
    subst (λ u. Alike u v w) (sym e) (record { first = wider a top v p.0 f; second = wider b top w p.1 g })

-- ---- indices

shift_type : (c : Scope) (e s : Expr) (t : ValueType) (b : Bool) → (if b && false then row (call_fits c true e) Signed else operated Sar e s (type_of c e) (type_of c s)) ≡ Some t → Signed ≡ t
shift_type c e s t true h =
    let p = from_bind (λ a. option_and_then (λ b. binary_row_of Sar a b) (type_of c s)) (type_of c e) t h in
    let q = from_bind (λ b. binary_row_of Sar p.0 b) (type_of c s) t p.2 in
    (from_row (accepts (takes_of Sar) p.0 q.0) Signed t q.2).1
shift_type c e s t false h =
    let p = from_bind (λ a. option_and_then (λ b. binary_row_of Sar a b) (type_of c s)) (type_of c e) t h in
    let q = from_bind (λ b. binary_row_of Sar p.0 b) (type_of c s) t p.2 in
    (from_row (accepts (takes_of Sar) p.0 q.0) Signed t q.2).1

bare_int : (k : ℕ) (t : ValueType) (v : JsValue) → bare_index k (Some t) ≡ true → fits_of t v ≡ true → fits_of Int v ≡ true
bare_int k t v h f =
    ⊎_elim (λ b. wider Signed Int v refl (wider t Signed v b f)) (λ b. wider Unsigned Int v refl (wider t Unsigned v b f)) (or_cases _ _ (and_parts _ _ h).1)

index_int : (c : Scope) (k : ℕ) (i : Expr) (t : ValueType) (v : JsValue) → type_of c i ≡ Some t → index_form k i (Some t) ≡ true → Valued t i v → fits_of Int v ≡ true
index_int c k (lit z) t v h f g = subst (λ v. fits_of Int v ≡ true) (sym g.1) (literal_below z (Some t) h refl)
index_int c k (binary Sar e s) t v h f g = wider Signed Int v refl (subst (λ t. fits_of t v ≡ true) (sym (shift_type c e s t (is_call c e) h)) g.0)
index_int c k i t v h f g = bare_int k t v f g.0

pub index_is : (c : Scope) (mm : Meaning) (i : Expr) (x : IndexOf c mm i) → index_fits mm i (type_of c i) ≡ true → (v : JsValue) → Valued x.type i v → IsIndex v
index_is c mm i x h v g =
    let z = x.wholes v g in
    let form : index_fits (a_view x.view) i (Some x.type) ≡ true = ap (λ mm. index_fits mm i (Some x.type)) (sym x.is_view) ∙ ap (index_fits mm i) (sym x.has_type) ∙ h in
    let int = index_int c (shift_of x.view) i x.type v x.has_type form g in
    record { number = z.0; is = z.1; in_range = subst (λ v. fits_of Int v ≡ true) z.1 int }

-- a whole number, and where its element begins
pub record IsIndexAt (k at : ℕ) (v : JsValue) : Type 0 where
  pub number : ℤ
  pub is : v ≡ Whole number
  pub place : IsPlace k number at

module _ (s : Surroundings) (limit d : ℕ) where
  abbrev x : ℕ
  x = scratch_x s limit d

  abbrev y : ℕ
  y = scratch_y s limit d

  -- ---- operators of two operands

  -- a word or a relation of words, or a guard where there is room for it
  pub keeps_operator : (op : JsOp) (l r : Expr) (a b t : ValueType) (unsigned : Bool) (v w : JsValue) → unsigned ≡ (is_unsigned_type a || is_unsigned_type b)
      → operated op l r (Some a) (Some b) ≡ Some t → Within s (operator op unsigned x y) → fits_of a v ≡ true → fits_of b w ≡ true
      → Keeps s limit d (word w ∷ word v ∷ []) AnyValue a_value (operator op unsigned x y) (defined (js_binary_of op v w))
  keeps_operator Add l r a b t unsigned v w e h room f g = keeps_word s limit d Add bins.Add v w refl
  keeps_operator Sub l r a b t unsigned v w e h room f g = keeps_word s limit d Sub bins.Sub v w refl
  keeps_operator Mul l r a b t unsigned v w e h room f g = keeps_word s limit d Mul bins.Mul v w refl
  keeps_operator Or l r a b t unsigned v w e h room f g = keeps_word s limit d Or bins.Or v w refl
  keeps_operator And l r a b t unsigned v w e h room f g = keeps_word s limit d And bins.And v w refl
  keeps_operator Xor l r a b t unsigned v w e h room f g = keeps_word s limit d Xor bins.Xor v w refl
  keeps_operator Shl l r a b t unsigned v w e h room f g = keeps_word s limit d Shl bins.Shl v w refl
  keeps_operator Sar l r a b t unsigned v w e h room f g = keeps_word s limit d Sar bins.ShrS v w refl
  keeps_operator Shr l r a b t unsigned v w e h room f g = keeps_word s limit d Shr bins.ShrU v w refl
  keeps_operator Div l r a b t true v w e h room f g =
      let k = alike_fits a b t _ true v w e h f g in keeps_quotient s limit d (omega (arith, room)) true v w k.first k.second
  keeps_operator Div l r a b t false v w e h room f g =
      let k = alike_fits a b t _ false v w e h f g in keeps_quotient s limit d (omega (arith, room)) false v w k.first k.second
  keeps_operator Rem l r a b t unsigned v w e h room f g =
      let k = alike_fits a b t _ unsigned v w e h f g in keeps_remainder s limit d (omega (arith, room)) unsigned v w k.first k.second
  keeps_operator Lt l r a b t true v w e h room f g = let k = alike_fits a b t _ true v w e h f g in keeps_relation s limit d Lt true rels.LtU v w refl k.first k.second
  keeps_operator Lt l r a b t false v w e h room f g = let k = alike_fits a b t _ false v w e h f g in keeps_relation s limit d Lt false rels.LtS v w refl k.first k.second
  keeps_operator Le l r a b t true v w e h room f g = let k = alike_fits a b t _ true v w e h f g in keeps_relation s limit d Le true rels.LeU v w refl k.first k.second
  keeps_operator Le l r a b t false v w e h room f g = let k = alike_fits a b t _ false v w e h f g in keeps_relation s limit d Le false rels.LeS v w refl k.first k.second
  keeps_operator Gt l r a b t true v w e h room f g = let k = alike_fits a b t _ true v w e h f g in keeps_relation s limit d Gt true rels.GtU v w refl k.first k.second
  keeps_operator Gt l r a b t false v w e h room f g = let k = alike_fits a b t _ false v w e h f g in keeps_relation s limit d Gt false rels.GtS v w refl k.first k.second
  keeps_operator Ge l r a b t true v w e h room f g = let k = alike_fits a b t _ true v w e h f g in keeps_relation s limit d Ge true rels.GeU v w refl k.first k.second
  keeps_operator Ge l r a b t false v w e h room f g = let k = alike_fits a b t _ false v w e h f g in keeps_relation s limit d Ge false rels.GeS v w refl k.first k.second
  keeps_operator Eq l r a b t unsigned v w e h room f g = let k = alike_fits a b t _ unsigned v w e h f g in keeps_relation s limit d Eq unsigned rels.Eq v w refl k.first k.second
  keeps_operator Ne l r a b t unsigned v w e h room f g = let k = alike_fits a b t _ unsigned v w e h f g in keeps_relation s limit d Ne unsigned rels.Ne v w refl k.first k.second

  -- ---- elements

  module _ (mm : Meaning) (v : Element) (is_view : mm ≡ a_view v) (has_one : has_heap s.home ≡ true) (long : IsHeapLength s.heap) (at : JsValue → ℕ) where
    pub keeps_index : (has : JsValue → Type 0) (code : Trees) (part : Part JsValue) → ((i : JsValue) → has i → IsIndexAt (shift_of v) (at i) i)
        → Within s (load_code s.heap x mm) → Keeps s limit d [] has (λ i. W32 (at i) ∷ []) code part
        → Keeps s limit d [] AnyValue a_value (code ⊕ load_code s.heap x mm) (and_then part (λ i. read_element mm i))
    keeps_index has code part whole room k =
        keeps_then s limit d [] has (λ i. W32 (at i) ∷ []) AnyValue a_value code (load_code s.heap x mm) part (λ i. read_element mm i) k
        (λ i g. subst (λ mm. Keeps s limit d (W32 (at i) ∷ []) AnyValue a_value (load_code s.heap x mm) (read_element mm i)) (sym is_view)
        (subst (λ j. Keeps s limit d (W32 (at i) ∷ []) AnyValue a_value (load_code s.heap x (a_view v)) (read_element (a_view v) j)) (sym (whole i g).is)
        (keeps_load s limit d some v has_one long (whole i g).number (at i) (whole i g).place)))
      where
        view_room : Within s (load_code s.heap x (a_view v))
        view_room = subst (λ mm. Within s (load_code s.heap x mm)) is_view room

        some : d + 1 ≤ s.scratch
        some = let room = view_room in omega (arith, room)

    pub keeps_stored : (wanted : Bool) (has has_value : JsValue → Type 0) (index_code code : Trees) (index part : Part JsValue) → ((i : JsValue) → has i → IsIndexAt (shift_of v) (at i) i)
        → Within s (store_code s.heap x y mm) → Keeps s limit d [] has (λ i. W32 (at i) ∷ []) index_code index → Keeps s limit d [] has_value a_value code part
        → Keeps s limit d [] AnyValue (result wanted) (index_code ⊕ (code ⊕ (store_code s.heap x y mm ⊕ stored_code wanted y))) (and_then index (λ i. and_then part (λ e. write_element mm i e)))
    keeps_stored wanted has has_value index_code code index part whole room k l =
        keeps_then s limit d [] has (λ i. W32 (at i) ∷ []) AnyValue (result wanted) index_code (code ⊕ (store_code s.heap x y mm ⊕ stored_code wanted y)) index (λ i. and_then part (λ e. write_element mm i e)) k
        (λ i g. keeps_then s limit d (W32 (at i) ∷ []) has_value (λ e. word e ∷ W32 (at i) ∷ []) AnyValue (result wanted) code (store_code s.heap x y mm ⊕ stored_code wanted y) part (λ e. write_element mm i e)
        (keeps_over s limit d (W32 (at i) ∷ []) has_value a_value code part l)
        (λ e g'. subst (λ mm. Keeps s limit d (word e ∷ W32 (at i) ∷ []) AnyValue (result wanted) (store_code s.heap x y mm ⊕ stored_code wanted y) (write_element mm i e)) (sym is_view)
        (subst (λ j. Keeps s limit d (word e ∷ W32 (at i) ∷ []) AnyValue (result wanted) (store_code s.heap x y (a_view v) ⊕ stored_code wanted y) (write_element (a_view v) j e)) (sym (whole i g).is)
        (keeps_store s limit d (omega (arith, enough)) v has_one long enough wanted (whole i g).number (at i) e (whole i g).place))))
      where
        view_room : Within s (store_code s.heap x y (a_view v))
        view_room = subst (λ mm. Within s (store_code s.heap x y mm)) is_view room

        enough : d + 2 ≤ s.scratch
        enough = let room = view_room in omega (arith, room)
