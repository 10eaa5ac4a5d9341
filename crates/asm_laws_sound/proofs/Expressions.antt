-- A typed expression never goes wrong, and its value is one of its type.
use Rattle.std.proofs.Common.{◌≡◌, ℕ, ◌+◌, ◌*◌, ◌<◌, ◌≤◌, ◌^◌, Bool, true, false, ◌&&◌, ◌||◌, List, [], ◌∷◌, length, Option, Some, None, option_and_then, is_some, ℤ, pos, unsigned_abs, refl, sym, subst, ⊎_elim, arith}
use Rattle.std.proofs.lemmas.Bool.{and_parts, or_cases, eqb-true}
use Rattle.std.specs.Prelude.{if◌then◌else◌}
use Rattle.std.proofs.lemmas.Bool.Decides.{nat_tests}
use Rattle.std.proofs.lemmas.Int.{ints}
use Rattle.sem_words.specs.declared.js_value.JsValue.{JsValue}
use Rattle.sem_words.specs.declared.js_value.JsValue.TheVariants.{Whole}
use Rattle.sem_words.specs.declared.js_value.JsOp.{JsOp}
use Rattle.sem_words.specs.declared.js_value.JsOp.TheVariants.{Add, Sub, Mul, Div, Rem, Or, And, Xor, Shl, Sar, Shr, Lt, Le, Gt, Ge, Eq, Ne}
use Rattle.sem_words.specs.JsOperators.{whole_of, js_binary_of}
use Rattle.asm_types.specs.declared.value_type.ValueType.{ValueType}
use Rattle.asm_types.specs.declared.value_type.ValueType.TheVariants.{Signed, Unsigned, Int, Intish}
use Rattle.asm_types.specs.Types.{is_below}
use Rattle.asm_types.specs.Rows.{row, binary_row_of, accepts, takes_of}
use Rattle.asm_types.specs.Values.{fits_of}
use Rattle.asm_types.proofs.Sound.{Gives, wider, from_row, binary_sound, product_gives, product_turned_gives, Sums, sum_step, difference_step, imul_gives, clz32_gives}
use Rattle.asm_lang.specs.Modules.{Expr, lit, binary}
use Rattle.asm_lang_valid.specs.declared.meaning.Element.{Element}
use Rattle.asm_lang_valid.specs.declared.meaning.Builtin.{Builtin}
use Rattle.asm_lang_valid.specs.declared.meaning.Builtin.TheVariants.{Imul, Clz32}
use Rattle.asm_lang_valid.specs.Scope.{shift_of, Meaning, nothing, an_int, an_outside, a_foreign, a_builtin, a_view, a_function, a_table, a_parameter}
use Rattle.asm_lang_valid.specs.Typing.{Scope, is_factor, typed_below, bare_index, index_form, index_fits, operated, masked, is_call, builtin_arguments, builtin_type, builtin_call, type_of, call_fits}
use Rattle.asm_lang_exec.specs.Values.{builtin_value}
use Rattle.asm_lang_exec.specs.Meaning.{link_operator}
use Rattle.asm_laws_sound.proofs.Both.{Given}
use Rattle.asm_laws_sound.proofs.Members.{masked_index}

-- ---- options

pub from_bind : {A B : Type 0} (k : A → Option B) (o : Option A) (b : B) → option_and_then k o ≡ Some b → (a : A) × (o ≡ Some a) × (k a ≡ Some b)
from_bind k None b h = absurd (cc h)
from_bind k (Some a) b h = (a, refl, h)

pub from_if : (b : Bool) (o : Option ValueType) (t : ValueType) → (if b then o else None) ≡ Some t → (b ≡ true) × (o ≡ Some t)
from_if true o t h = (refl, h)
from_if false o t h = absurd (cc h)

-- a type below another
pub record Below (top : ValueType) (o : Option ValueType) : Type 0 where
  pub type : ValueType
  pub is : o ≡ Some type
  pub is_lower : is_below type top ≡ true

pub from_below : (top : ValueType) (o : Option ValueType) → typed_below top o ≡ true → Below top o
from_below top None h = absurd (cc h)
from_below top (Some t) h = record { type = t; is = refl; is_lower = h }

pub from_some : {A : Type 0} (o : Option A) → is_some o ≡ true → (a : A) × (o ≡ Some a)
from_some None h = absurd (cc h)
from_some (Some a) h = (a, refl)

-- ---- what is known of the value of an expression beside its type

abbrev pub Masks : JsOp → Expr → JsValue → Type 0
Masks And (lit z) x = (v : JsValue) × (js_binary_of And v (Whole z) ≡ Some x)
Masks _ r x = Unit {0}

abbrev pub Known : Expr → JsValue → Type 0
Known (lit z) v = v ≡ Whole z
Known (binary op l r) v = Masks op r v
Known _ v = Unit {0}

abbrev pub Valued : ValueType → Expr → JsValue → Type 0
Valued t e v = (fits_of t v ≡ true) × Known e v

pub known_binary : (op : JsOp) (r : Expr) (v w x : JsValue) → Known r w → js_binary_of op v w ≡ Some x → Masks op r x
known_binary And (lit z) v w x k h = (v, subst (λ w. js_binary_of And v w ≡ Some x) k h)
known_binary op r v w x k h = tt

-- ---- indices

abbrev pub IsWhole : JsValue → Type 0
IsWhole v = (z : ℤ) × (v ≡ Whole z)

pub signed_whole : (v : JsValue) → fits_of Signed v ≡ true → IsWhole v
signed_whole (Whole z) h = (z, refl)
signed_whole v h = absurd (cc h)

unsigned_whole : (v : JsValue) → fits_of Unsigned v ≡ true → IsWhole v
unsigned_whole (Whole z) h = (z, refl)
unsigned_whole v h = absurd (cc h)

bare_whole : (k : ℕ) (t : ValueType) (v : JsValue) → bare_index k (Some t) ≡ true → fits_of t v ≡ true → IsWhole v
bare_whole k t v h f =
    ⊎_elim (λ b. signed_whole v (wider t Signed v b f)) (λ b. unsigned_whole v (wider t Unsigned v b f)) (or_cases _ _ (and_parts _ _ h).1)

literal_whole : (z : ℤ) (v : JsValue) → v ≡ Whole z → IsWhole v
literal_whole z v h = (z, h)

shift_type : (c : Scope) (e s : Expr) (t : ValueType) (b : Bool) → (if b && false then row (call_fits c true e) Signed else operated Sar e s (type_of c e) (type_of c s)) ≡ Some t → Signed ≡ t
shift_type c e s t true h =
    let p = from_bind (λ a. option_and_then (λ b. binary_row_of Sar a b) (type_of c s)) (type_of c e) t h in
    let q = from_bind (λ b. binary_row_of Sar p.0 b) (type_of c s) t p.2 in
    (from_row (accepts (takes_of Sar) p.0 q.0) Signed t q.2).1
shift_type c e s t false h =
    let p = from_bind (λ a. option_and_then (λ b. binary_row_of Sar a b) (type_of c s)) (type_of c e) t h in
    let q = from_bind (λ b. binary_row_of Sar p.0 b) (type_of c s) t p.2 in
    (from_row (accepts (takes_of Sar) p.0 q.0) Signed t q.2).1

index_whole : (c : Scope) (k : ℕ) (i : Expr) (t : ValueType) (v : JsValue) → type_of c i ≡ Some t → index_form k i (Some t) ≡ true → Valued t i v → IsWhole v
index_whole c k (lit z) t v h f g = literal_whole z v g.1
index_whole c k (binary Sar e s) t v h f g = signed_whole v (subst (λ t. fits_of t v ≡ true) (sym (shift_type c e s t (is_call c e) h)) g.0)
index_whole c k i t v h f g = bare_whole k t v f g.0

pub record IndexOf (c : Scope) (mm : Meaning) (i : Expr) : Type 0 where
  pub view : Element
  pub is_view : mm ≡ a_view view
  pub type : ValueType
  pub has_type : type_of c i ≡ Some type
  pub wholes : (v : JsValue) → Valued type i v → IsWhole v

pub index_of : (c : Scope) (mm : Meaning) (i : Expr) (o : Option ValueType) → type_of c i ≡ o → index_fits mm i o ≡ true → IndexOf c mm i
index_of c (a_view k) i None e h = absurd (cc h)
index_of c (a_view k) i (Some t) e h = record { view = k; is_view = refl; type = t; has_type = e; wholes = λ v g. index_whole c (shift_of k) i t v e h g }
index_of c nothing i o e h = absurd (cc h)
index_of c an_int i o e h = absurd (cc h)
index_of c an_outside i o e h = absurd (cc h)
index_of c (a_foreign p) i o e h = absurd (cc h)
index_of c (a_builtin b) i o e h = absurd (cc h)
index_of c (a_function f) i o e h = absurd (cc h)
index_of c (a_table t) i o e h = absurd (cc h)
index_of c a_parameter i o e h = absurd (cc h)

-- ---- operators

pub given : (t : ValueType) (e : Expr) (o : Option JsValue) → Gives t o → ((x : JsValue) → o ≡ Some x → Known e x) → Given (Valued t e) o
given t e o g k = record { value = g.value; is = g.is; holds = (g.fit, k g.value g.is) }

-- an operator on two operands, with what is known of the right one
pub operated_gives : (op : JsOp) (l r : Expr) (s u t : ValueType) (v w : JsValue) → operated op l r (Some s) (Some u) ≡ Some t → Valued s l v → Valued u r w → Gives t (js_binary_of op v w)
operated_gives Mul l r s u t v w h f g =
    let p = from_row _ _ _ h in
    let q = and_parts _ _ p.0 in
    let b = and_parts _ _ q.0 in
    subst (λ t. Gives t (js_binary_of Mul v w)) p.1 (⊎_elim (λ e. left l v e f.1 (wider u Int w b.1 g.0)) (λ e. right r w e g.1 (wider s Int v b.0 f.0)) (or_cases _ _ q.1))
  where
    left : (l : Expr) (v : JsValue) → is_factor l ≡ true → Known l v → fits_of Int w ≡ true → Gives Intish (js_binary_of Mul v w)
    left (lit z) v e k i = rw k (product_turned_gives z w (let small = e in grind (arith, nat_tests)) i)
    left l v e k i = absurd (cc e)

    right : (r : Expr) (w : JsValue) → is_factor r ≡ true → Known r w → fits_of Int v ≡ true → Gives Intish (js_binary_of Mul v w)
    right (lit z) w e k i = rw k (product_gives v z i (let small = e in grind (arith, nat_tests)))
    right r w e k i = absurd (cc e)
operated_gives Add l r s u t v w h f g = binary_sound Add s u t v w (λ e. cc e) h f.0 g.0
operated_gives Sub l r s u t v w h f g = binary_sound Sub s u t v w (λ e. cc e) h f.0 g.0
operated_gives Div l r s u t v w h f g = binary_sound Div s u t v w (λ e. cc e) h f.0 g.0
operated_gives Rem l r s u t v w h f g = binary_sound Rem s u t v w (λ e. cc e) h f.0 g.0
operated_gives Or l r s u t v w h f g = binary_sound Or s u t v w (λ e. cc e) h f.0 g.0
operated_gives And l r s u t v w h f g = binary_sound And s u t v w (λ e. cc e) h f.0 g.0
operated_gives Xor l r s u t v w h f g = binary_sound Xor s u t v w (λ e. cc e) h f.0 g.0
operated_gives Shl l r s u t v w h f g = binary_sound Shl s u t v w (λ e. cc e) h f.0 g.0
operated_gives Sar l r s u t v w h f g = binary_sound Sar s u t v w (λ e. cc e) h f.0 g.0
operated_gives Shr l r s u t v w h f g = binary_sound Shr s u t v w (λ e. cc e) h f.0 g.0
operated_gives Lt l r s u t v w h f g = binary_sound Lt s u t v w (λ e. cc e) h f.0 g.0
operated_gives Le l r s u t v w h f g = binary_sound Le s u t v w (λ e. cc e) h f.0 g.0
operated_gives Gt l r s u t v w h f g = binary_sound Gt s u t v w (λ e. cc e) h f.0 g.0
operated_gives Ge l r s u t v w h f g = binary_sound Ge s u t v w (λ e. cc e) h f.0 g.0
operated_gives Eq l r s u t v w h f g = binary_sound Eq s u t v w (λ e. cc e) h f.0 g.0
operated_gives Ne l r s u t v w h f g = binary_sound Ne s u t v w (λ e. cc e) h f.0 g.0

pub record Operands (op : JsOp) (l r : Expr) (o q : Option ValueType) (t : ValueType) : Type 0 where
  pub left : ValueType
  pub right : ValueType
  pub left_is : o ≡ Some left
  pub right_is : q ≡ Some right
  pub row_is : operated op l r (Some left) (Some right) ≡ Some t

pub operands_of : (op : JsOp) (l r : Expr) (o q : Option ValueType) (t : ValueType) → operated op l r o q ≡ Some t → Operands op l r o q t
operands_of op l r (Some s) (Some u) t h = record { left = s; right = u; left_is = refl; right_is = refl; row_is = h }
operands_of Mul l r None q t h = absurd (cc h)
operands_of op l r None q t h = absurd (cc h)
operands_of Mul l r (Some s) None t h = absurd (by (is_below s Int) (is_factor l || is_factor r) h)
  where
    by : (a b : Bool) → row (a && false && b) Intish ≡ Some t → ⊥
    by true b h = cc h
    by false b h = cc h
operands_of op l r (Some s) None t h = absurd (cc h)

-- ---- chains

pub link_gives : (minus : Bool) (k : ℕ) (v w : JsValue) (x : ℤ) → whole_of v ≡ Some x → unsigned_abs x ≤ k * 2 ^ 32 → k ≤ 2 ^ 20 → fits_of Int w ≡ true → Sums (k + 1) (js_binary_of (link_operator minus) v w)
link_gives false k v w x e h most f = rw e (sum_step k x w h most f)
link_gives true k v w x e h most f = rw e (difference_step k x w h most f)

-- ---- functions of the standard library

abbrev pub AllFit : ValueType → List JsValue → Type 0
AllFit top [] = Unit {0}
AllFit top (v ∷ vs) = (fits_of top v ≡ true) × AllFit top vs

abbrev pub Argued : ValueType → ℕ → List JsValue → Type 0
Argued top count vs = (length vs ≡ count) × AllFit top vs

pub builtin_gives : (b : Builtin) (vs : List JsValue) → length vs ≡ builtin_arguments b → AllFit Int vs → Gives (builtin_type b) (builtin_value b vs)
builtin_gives Imul (v ∷ w ∷ []) h f = imul_gives v w f.0 f.1.0
builtin_gives Clz32 (v ∷ []) h f = clz32_gives v f.0
builtin_gives Imul [] h f = absurd (omega (arith, h))
builtin_gives Imul (v ∷ []) h f = absurd (omega (arith, h))
builtin_gives Imul (v ∷ w ∷ x ∷ xs) h f = absurd (omega (arith, h))
builtin_gives Clz32 [] h f = absurd (omega (arith, h))
builtin_gives Clz32 (v ∷ w ∷ ws) h f = absurd (omega (arith, h))

pub record BuiltinOf (mm : Meaning) (count : ℕ) (ints : Bool) (t : ValueType) : Type 0 where
  pub builtin : Builtin
  pub is : mm ≡ a_builtin builtin
  pub many : count ≡ builtin_arguments builtin
  pub are_ints : ints ≡ true
  pub type_is : builtin_type builtin ≡ t

pub builtin_of : (mm : Meaning) (count : ℕ) (ints : Bool) (t : ValueType) → builtin_call mm count ints ≡ Some t → BuiltinOf mm count ints t
builtin_of (a_builtin b) count ints t h =
    let p = from_row _ _ _ h in
    let q = and_parts _ _ p.0 in
    record { builtin = b; is = refl; many = eqb-true count (builtin_arguments b) q.0; are_ints = q.1; type_is = p.1 }
builtin_of nothing count ints t h = absurd (cc h)
builtin_of an_int count ints t h = absurd (cc h)
builtin_of an_outside count ints t h = absurd (cc h)
builtin_of (a_foreign p) count ints t h = absurd (cc h)
builtin_of (a_view k) count ints t h = absurd (cc h)
builtin_of (a_function f) count ints t h = absurd (cc h)
builtin_of (a_table u) count ints t h = absurd (cc h)
builtin_of a_parameter count ints t h = absurd (cc h)

-- ---- masked indices of tables

pub masked_known : (i : Expr) (x : JsValue) (n : ℕ) → masked n i ≡ true → Known i x → n ≤ 65536 → (j : ℕ) × (x ≡ Whole (pos j)) × (j < n)
masked_known (binary And e (lit (pos k))) x n h known most =
    let q = eqb-true (k + 1) n h in
    let r = masked_index known.0 x k known.1 (omega (arith, q, most)) in
    (r.0, r.1, omega (arith, r.2, q))
masked_known i x n h known most = absurd (cc h)
