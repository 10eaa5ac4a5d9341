-- Which clause a value has that a switch compares, or looks for among the values of a table.
use Rattle.std.proofs.Common.{◌≡◌, ℕ, suc, ◌^◌, Bool, true, false, ◌&&◌, List, [], ◌∷◌, Some, None, ℤ, pos, ◌+ℤ◌, ◌-ℤ◌, refl, sym, ap, ◌∙◌, arith}
use Rattle.std.specs.Prelude.{◌==◌, int_le, int_lt, nat_lt, unsigned_abs, if◌then◌else◌}
use Rattle.std.proofs.lemmas.Bool.{and_parts}
use Rattle.std.proofs.lemmas.Bool.Decides.{nat_tests}
use Rattle.std.proofs.lemmas.Int.{ints}
use Rattle.sem_words.specs.Words.{word_of, sub_of}
use Rattle.asm_types.specs.Values.{is_between, least as least_signed}
use Rattle.asm_lang.specs.Modules.{Clauses, no_clauses, clauses}
use Rattle.asm_lang_valid.specs.Typing.{values, in_range}
use Rattle.asm_lang_exec.specs.Meaning.{is_case, before_case, before_default, has_case, passed_over}
use Rattle.asm2wasm_translation.specs.Bodies.{lesser, greater, least, greatest, low, span, is_dense}

abbrev pub IsSigned : ℤ → Type 0
IsSigned z = is_between least_signed (pos (2 ^ 31)) z ≡ true

pub case_range : (v : ℤ) (vs : List ℤ) → in_range (v ∷ vs) ≡ true → IsSigned v × (in_range vs ≡ true)
case_range v vs h = let p = and_parts (is_between least_signed (pos (2 ^ 31)) v) (in_range vs) h in (p.0, p.1)

pub equal_words : (z v : ℤ) → IsSigned z → IsSigned v → (word_of 32 z == word_of 32 v) ≡ is_case z (Some v)
equal_words z v f g = grind (arith, ints, nat_tests)

-- ---- where the values lie

abbrev Between : ℤ → ℤ → List ℤ → Type 0
Between lo hi [] = Unit {0}
Between lo hi (v ∷ vs) = (int_le lo v ≡ true) × (int_le v hi ≡ true) × Between lo hi vs

in_turn : (a b c : ℤ) → int_le a b ≡ true → int_le b c ≡ true → int_le a c ≡ true
in_turn a b c f g = grind (arith, ints, nat_tests)

wider : (lo hi lo' hi' : ℤ) (vs : List ℤ) → int_le lo' lo ≡ true → int_le hi hi' ≡ true → Between lo hi vs → Between lo' hi' vs
wider lo hi lo' hi' [] f g b = tt
wider lo hi lo' hi' (v ∷ vs) f g b = (in_turn lo' lo v f b.0, in_turn v hi hi' b.1 g, wider lo hi lo' hi' vs f g b.2)

lesser_below : (a b : ℤ) → (int_le (lesser a b) a ≡ true) × (int_le (lesser a b) b ≡ true)
lesser_below a b = by (int_lt b a) refl
  where
    by : (x : Bool) → int_lt b a ≡ x → (int_le (if x then b else a) a ≡ true) × (int_le (if x then b else a) b ≡ true)
    by true e = (grind (arith, ints, nat_tests), grind (arith, ints, nat_tests))
    by false e = (grind (arith, ints, nat_tests), grind (arith, ints, nat_tests))

greater_above : (a b : ℤ) → (int_le a (greater a b) ≡ true) × (int_le b (greater a b) ≡ true)
greater_above a b = by (int_lt a b) refl
  where
    by : (x : Bool) → int_lt a b ≡ x → (int_le a (if x then b else a) ≡ true) × (int_le b (if x then b else a) ≡ true)
    by true e = (grind (arith, ints, nat_tests), grind (arith, ints, nat_tests))
    by false e = (grind (arith, ints, nat_tests), grind (arith, ints, nat_tests))

extremes : (z : ℤ) (vs : List ℤ) → (int_le (least z vs) z ≡ true) × (int_le z (greatest z vs) ≡ true) × Between (least z vs) (greatest z vs) vs
extremes z [] = (grind (arith, ints, nat_tests), grind (arith, ints, nat_tests), tt)
extremes z (v ∷ vs) =
    let e = extremes z vs in
    let l = lesser_below v (least z vs) in
    let g = greater_above v (greatest z vs) in
    (in_turn (least z (v ∷ vs)) (least z vs) z l.1 e.0, in_turn z (greatest z vs) (greatest z (v ∷ vs)) e.1 g.1, (l.0, g.0, wider (least z vs) (greatest z vs) (least z (v ∷ vs)) (greatest z (v ∷ vs)) vs l.1 g.1 e.2))

one_of : (x : Bool) (a b : ℤ) → IsSigned a → IsSigned b → IsSigned (if x then b else a)
one_of true a b f g = g
one_of false a b f g = f

extremes_signed : (z : ℤ) (vs : List ℤ) → IsSigned z → in_range vs ≡ true → IsSigned (least z vs) × IsSigned (greatest z vs)
extremes_signed z [] f h = (f, f)
extremes_signed z (v ∷ vs) f h =
    let p = case_range v vs h in
    let e = extremes_signed z vs f p.1 in
    (one_of (int_lt (least z vs) v) v (least z vs) p.0 e.0, one_of (int_lt v (greatest z vs)) v (greatest z vs) p.0 e.1)

no_case : (lo hi z v : ℤ) → int_le lo v ≡ true → int_le v hi ≡ true → (int_le lo z && int_le z hi) ≡ false → is_case z (Some v) ≡ false
no_case lo hi z v f g h = grind (arith, ints, nat_tests)

none_outside : (lo hi z : ℤ) (cs : Clauses) → Between lo hi (values cs) → (int_le lo z && int_le z hi) ≡ false → has_case z cs ≡ false
none_outside lo hi z no_clauses b h = refl
none_outside lo hi z (clauses None ss cs) b h = none_outside lo hi z cs b h
none_outside lo hi z (clauses (Some v) ss cs) b h = ap (λ x. if x then true else has_case z cs) (no_case lo hi z v b.0 b.1 h) ∙ none_outside lo hi z cs b.2 h

-- ---- the index of a value

index_inside : (lo hi z : ℤ) → IsSigned lo → IsSigned hi → IsSigned z → int_le lo hi ≡ true
    → nat_lt (sub_of 32 (word_of 32 z) (word_of 32 lo)) (suc (unsigned_abs (hi -ℤ lo))) ≡ (int_le lo z && int_le z hi)
index_inside lo hi z f g h le = grind (arith, ints, nat_tests)

index_is : (lo z : ℤ) → IsSigned lo → IsSigned z → int_le lo z ≡ true → lo +ℤ pos (sub_of 32 (word_of 32 z) (word_of 32 lo)) ≡ z
index_is lo z f h le = grind (arith, ints, nat_tests)

abbrev pub index : ℤ → List ℤ → ℕ
index z vs = sub_of 32 (word_of 32 z) (word_of 32 (low vs))

record Bounds (vs : List ℤ) : Type 0 where
  high : ℤ
  low_signed : IsSigned (low vs)
  high_signed : IsSigned high
  ordered : int_le (low vs) high ≡ true
  is_span : span vs ≡ unsigned_abs (high -ℤ low vs)
  between : Between (low vs) high vs

bounds : (vs : List ℤ) → is_dense vs ≡ true → in_range vs ≡ true → Bounds vs
bounds [] d h = absurd (cc d)
bounds (v ∷ vs) d h =
    let p = case_range v vs h in
    let e = extremes v vs in
    let f = extremes_signed v vs p.0 p.1 in
    record {
      high = greatest v vs;
      low_signed = f.0;
      high_signed = f.1;
      ordered = in_turn (least v vs) v (greatest v vs) e.0 e.1;
      is_span = refl;
      between = (e.0, e.1, e.2);
    }

module _ (z : ℤ) (fits : IsSigned z) (cs : Clauses) (dense : is_dense (values cs) ≡ true) (h : in_range (values cs) ≡ true) where
  lies : (b : Bounds (values cs)) → nat_lt (index z (values cs)) (suc (span (values cs))) ≡ (int_le (low (values cs)) z && int_le z b.high)
  lies b = ap (λ n. nat_lt (index z (values cs)) (suc n)) b.is_span ∙ index_inside (low (values cs)) b.high z b.low_signed b.high_signed fits b.ordered

  -- an index within the table is that of the value
  pub passed_inside : nat_lt (index z (values cs)) (suc (span (values cs))) ≡ true → passed_over (low (values cs) +ℤ pos (index z (values cs))) cs ≡ passed_over z cs
  passed_inside e =
      let b = bounds (values cs) dense h in
      let le = (and_parts (int_le (low (values cs)) z) (int_le z b.high) (sym (lies b) ∙ e)).0 in
      ap (λ z. passed_over z cs) (index_is (low (values cs)) z b.low_signed fits le)

  -- a value whose index lies past the table is no clause's
  pub passed_outside : nat_lt (index z (values cs)) (suc (span (values cs))) ≡ false → before_default cs ≡ passed_over z cs
  passed_outside e =
      let b = bounds (values cs) dense h in
      sym (ap (λ x. if x then before_case z cs else before_default cs) (none_outside (low (values cs)) b.high z cs b.between (sym (lies b) ∙ e)))
