-- How a switch whose values lie close together finds its clause by a table.
use Rattle.std.proofs.Common.{◌≡◌, ℕ, zero, suc, ◌+◌, ◌^◌, Bool, true, false, ◌&&◌, List, [], ◌∷◌, Some, None, ℤ, pos, ◌+ℤ◌, ◌-ℤ◌, refl, sym, ap, ◌∙◌, arith}
use Rattle.std.specs.Prelude.{int_le, int_lt, nat_lt, unsigned_abs, slice_get, if◌then◌else◌}
use Rattle.std.proofs.lemmas.Bool.{and_parts}
use Rattle.std.proofs.lemmas.Bool.Decides.{nat_tests}
use Rattle.std.proofs.lemmas.Int.{ints}
use Rattle.sem_words.specs.declared.word.Word.{Word}
use Rattle.sem_words.specs.declared.word.Word.TheVariants.{W32}
use Rattle.sem_words.specs.declared.word.Bin.TheVariants as bins
use Rattle.sem_words.specs.Words.{word_of, sub_of}
use Rattle.wasm_lang.specs.Instructions.{local_get, bin32}
use Rattle.wasm_lang.specs.Modules.{WasmModule}
use Rattle.wasm_lang_exec.specs.Code.{ε, ◌▹◌, br_table}
use Rattle.wasm_lang_exec.specs.Store.{Store}
use Rattle.wasm_lang_exec.specs.Plain.{pushed}
use Rattle.wasm_lang_exec.specs.Reductions.{default_to}
use Rattle.wasm_laws_drive.specs.Drive.{Branch, at}
use Rattle.wasm_laws_drive.proofs.Instructions.{br_table_chooses}
use Rattle.wasm_laws_trees.specs.Spelled.{size}
use Rattle.asm_types.specs.Values.{is_between, least as least_signed}
use Rattle.asm_lang.specs.Modules.{Clauses, no_clauses, clauses}
use Rattle.asm_lang_valid.specs.Typing.{values, in_range}
use Rattle.asm_lang_exec.specs.Meaning.{is_case, before_case, before_default, has_case, passed_over}
use Rattle.asm2wasm_translation.specs.Values as value
use Rattle.asm2wasm_translation.specs.Bodies.{lesser, greater, least, greatest, low, span, is_dense, targets, table_branch}
use Rattle.asm2wasm_laws_run.specs.Straight.{reached, on_from, effects}
use Rattle.asm2wasm_laws_run.proofs.Straight.{runs}
use Rattle.asm2wasm_laws_simulation.specs.Bodies.Followed.{on_code}
use Rattle.asm2wasm_laws_simulation.proofs.Bodies.Dispatched.{case_range}
use Rattle.asm2wasm_laws_simulation.proofs.Bodies.Scratched.{Reaches}

abbrev IsSigned : ℤ → Type 0
IsSigned z = is_between least_signed (pos (2 ^ 31)) z ≡ true

-- ---- where the values lie

abbrev Between : ℤ → ℤ → List ℤ → Type 0
Between lo hi [] = Unit {0}
Between lo hi (v ∷ vs) = (int_le lo v ≡ true) × (int_le v hi ≡ true) × Between lo hi vs

in_turn : (a b c : ℤ) → int_le a b ≡ true → int_le b c ≡ true → int_le a c ≡ true
in_turn a b c f g = grind (arith, ints, nat_tests)

wider : (lo hi lo' hi' : ℤ) (vs : List ℤ) → int_le lo' lo ≡ true → int_le hi hi' ≡ true → Between lo hi vs → Between lo' hi' vs
wider lo hi lo' hi' [] f g b = tt
wider lo hi lo' hi' (v ∷ vs) f g b = (in_turn lo' lo v f b.0, in_turn v hi hi' b.1 g, wider lo hi lo' hi' vs f g b.2)

lesser_below : (a b : ℤ) → (int_le (lesser a b) a ≡ true) × (int_le (lesser a b) b ≡ true)
lesser_below a b = by (int_lt b a) refl
  where
    by : (x : Bool) → int_lt b a ≡ x → (int_le (if x then b else a) a ≡ true) × (int_le (if x then b else a) b ≡ true)
    by true e = (grind (arith, ints, nat_tests), grind (arith, ints, nat_tests))
    by false e = (grind (arith, ints, nat_tests), grind (arith, ints, nat_tests))

greater_above : (a b : ℤ) → (int_le a (greater a b) ≡ true) × (int_le b (greater a b) ≡ true)
greater_above a b = by (int_lt a b) refl
  where
    by : (x : Bool) → int_lt a b ≡ x → (int_le a (if x then b else a) ≡ true) × (int_le b (if x then b else a) ≡ true)
    by true e = (grind (arith, ints, nat_tests), grind (arith, ints, nat_tests))
    by false e = (grind (arith, ints, nat_tests), grind (arith, ints, nat_tests))

extremes : (z : ℤ) (vs : List ℤ) → (int_le (least z vs) z ≡ true) × (int_le z (greatest z vs) ≡ true) × Between (least z vs) (greatest z vs) vs
extremes z [] = (grind (arith, ints, nat_tests), grind (arith, ints, nat_tests), tt)
extremes z (v ∷ vs) =
    let e = extremes z vs in
    let l = lesser_below v (least z vs) in
    let g = greater_above v (greatest z vs) in
    (in_turn (least z (v ∷ vs)) (least z vs) z l.1 e.0, in_turn z (greatest z vs) (greatest z (v ∷ vs)) e.1 g.1, (l.0, g.0, wider (least z vs) (greatest z vs) (least z (v ∷ vs)) (greatest z (v ∷ vs)) vs l.1 g.1 e.2))

one_of : (x : Bool) (a b : ℤ) → IsSigned a → IsSigned b → IsSigned (if x then b else a)
one_of true a b f g = g
one_of false a b f g = f

extremes_signed : (z : ℤ) (vs : List ℤ) → IsSigned z → in_range vs ≡ true → IsSigned (least z vs) × IsSigned (greatest z vs)
extremes_signed z [] f h = (f, f)
extremes_signed z (v ∷ vs) f h =
    let p = case_range v vs h in
    let e = extremes_signed z vs f p.1 in
    (one_of (int_lt (least z vs) v) v (least z vs) p.0 e.0, one_of (int_lt v (greatest z vs)) v (greatest z vs) p.0 e.1)

no_case : (lo hi z v : ℤ) → int_le lo v ≡ true → int_le v hi ≡ true → (int_le lo z && int_le z hi) ≡ false → is_case z (Some v) ≡ false
no_case lo hi z v f g h = grind (arith, ints, nat_tests)

none_outside : (lo hi z : ℤ) (cs : Clauses) → Between lo hi (values cs) → (int_le lo z && int_le z hi) ≡ false → has_case z cs ≡ false
none_outside lo hi z no_clauses b h = refl
none_outside lo hi z (clauses None ss cs) b h = none_outside lo hi z cs b h
none_outside lo hi z (clauses (Some v) ss cs) b h = ap (λ x. if x then true else has_case z cs) (no_case lo hi z v b.0 b.1 h) ∙ none_outside lo hi z cs b.2 h

-- ---- the index of a value

index_inside : (lo hi z : ℤ) → IsSigned lo → IsSigned hi → IsSigned z → int_le lo hi ≡ true
    → nat_lt (sub_of 32 (word_of 32 z) (word_of 32 lo)) (suc (unsigned_abs (hi -ℤ lo))) ≡ (int_le lo z && int_le z hi)
index_inside lo hi z f g h le = grind (arith, ints, nat_tests)

index_is : (lo z : ℤ) → IsSigned lo → IsSigned z → int_le lo z ≡ true → lo +ℤ pos (sub_of 32 (word_of 32 z) (word_of 32 lo)) ≡ z
index_is lo z f h le = grind (arith, ints, nat_tests)

target_at : (n i : ℕ) (z : ℤ) (cs : Clauses) → nat_lt i n ≡ true → slice_get (targets n z cs) i ≡ Some (passed_over (z +ℤ pos i) cs)
target_at zero i z cs h = absurd (let none : nat_lt i 0 ≡ false = grind (arith, nat_tests) in cc (sym none ∙ h))
target_at (suc n) zero z cs h = let e : z ≡ z +ℤ pos 0 = grind (arith, ints) in ap (λ z. Some (passed_over z cs)) e
target_at (suc n) (suc i) z cs h =
    let less : nat_lt i n ≡ true = grind (arith, nat_tests) in
    let e : z +ℤ pos 1 +ℤ pos i ≡ z +ℤ pos (suc i) = grind (arith, ints) in target_at n i (z +ℤ pos 1) cs less ∙ ap (λ z. Some (passed_over z cs)) e

no_target : (n i : ℕ) (z : ℤ) (cs : Clauses) → nat_lt i n ≡ false → slice_get (targets n z cs) i ≡ None
no_target zero i z cs h = refl
no_target (suc n) zero z cs h = absurd (let some : nat_lt 0 (suc n) ≡ true = grind (arith, nat_tests) in cc (sym h ∙ some))
no_target (suc n) (suc i) z cs h = let less : nat_lt i n ≡ false = grind (arith, nat_tests) in no_target n i (z +ℤ pos 1) cs less

-- ---- the table

record Bounds (vs : List ℤ) : Type 0 where
  high : ℤ
  low_signed : IsSigned (low vs)
  high_signed : IsSigned high
  ordered : int_le (low vs) high ≡ true
  is_span : span vs ≡ unsigned_abs (high -ℤ low vs)
  between : Between (low vs) high vs

bounds : (vs : List ℤ) → is_dense vs ≡ true → in_range vs ≡ true → Bounds vs
bounds [] d h = absurd (cc d)
bounds (v ∷ vs) d h =
    let p = case_range v vs h in
    let e = extremes v vs in
    let f = extremes_signed v vs p.0 p.1 in
    record {
      high = greatest v vs;
      low_signed = f.0;
      high_signed = f.1;
      ordered = in_turn (least v vs) v (greatest v vs) e.0 e.1;
      is_span = refl;
      between = (e.0, e.1, e.2);
    }

module _ (w : WasmModule) (t : ℕ) (z : ℤ) (fits : IsSigned z) (cs : Clauses) (dense : is_dense (values cs) ≡ true) (h : in_range (values cs) ≡ true) where
  abbrev index : ℕ
  index = sub_of 32 (word_of 32 z) (word_of 32 (low (values cs)))

  abbrev all : List ℕ
  all = targets (suc (span (values cs))) (low (values cs)) cs

  finds : default_to (before_default cs) (slice_get all index) ≡ passed_over z cs
  finds =
      let b = bounds (values cs) dense h in
      let inside = index_inside (low (values cs)) b.high z b.low_signed b.high_signed fits b.ordered in
      by b (int_le (low (values cs)) z && int_le z b.high) refl (ap (λ n. nat_lt index (suc n)) b.is_span ∙ inside)
    where
      by : (b : Bounds (values cs)) (x : Bool) → (int_le (low (values cs)) z && int_le z b.high) ≡ x → nat_lt index (suc (span (values cs))) ≡ (int_le (low (values cs)) z && int_le z b.high)
          → default_to (before_default cs) (slice_get all index) ≡ passed_over z cs
      by b true e n =
          let le = (and_parts (int_le (low (values cs)) z) (int_le z b.high) e).0 in
          ap (default_to (before_default cs)) (target_at (suc (span (values cs))) index (low (values cs)) cs (n ∙ e)) ∙ ap (λ z. passed_over z cs) (index_is (low (values cs)) z b.low_signed fits le)
      by b false e n =
          ap (default_to (before_default cs)) (no_target (suc (span (values cs))) index (low (values cs)) cs (n ∙ e))
          ∙ sym (ap (λ x. if x then before_case z cs else before_default cs) (none_outside (low (values cs)) b.high z cs b.between e))

  pub table_reaches : (l : List Word) (st : Store) → slice_get l t ≡ Some (W32 (word_of 32 z))
      → Reaches (size (table_branch t cs)) (on_code w [] (table_branch t cs) l st) (λ k. Branch (passed_over z cs) (at [] l st k))
  table_reaches l st got = record {
    cost = 3;
    few = omega arith;
    by = λ k.
        let n : 3 + k ≡ 2 + suc k = omega arith in
        let tail = br_table all (before_default cs) ▹ ε in
        ap (on_code w [] (table_branch t cs) l st) n
        ∙ runs w (local_get t ∷ value.number (word_of 32 (low (values cs))) ∷ bin32 bins.Sub ∷ []) [] l st (reached (W32 index ∷ []) l st) tail (suc k)
        (ap (λ o. on_from (pushed o [] l st) (effects (value.number (word_of 32 (low (values cs))) ∷ bin32 bins.Sub ∷ []))) got)
        ∙ br_table_chooses w all (before_default cs) ε (at (W32 index ∷ []) l st (suc k))
        ∙ ap (λ n. Branch n (at [] l st k)) finds;
  }
