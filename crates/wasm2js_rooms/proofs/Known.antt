-- Only the topmost operand of a place can be one that hasn't been noted.
use Rattle.std.proofs.Common.{ℕ, zero, suc, ◌+◌, ◌≤◌, List, [], ◌∷◌, ◌++◌, length, drop, Option, Some, None, arith}
use Rattle.std.specs.Prelude.{Result, Ok, Err, slice_get, true, false, Bool}
use Rattle.wasm_lang.specs.declared.types.ValType.{ValType}
use Rattle.wasm_lang.specs.declared.types.ValType.TheVariants.{I32, I64}
use Rattle.wasm_lang.specs.Instructions as flat
use Rattle.wasm_lang.specs.Instructions.{Instruction, Plain}
use Rattle.wasm_lang.specs.Modules.{FunctionType}
use Rattle.wasm_lang_valid.specs.declared.rule.Rule.{Rule}
use Rattle.wasm_lang_valid.specs.Typing.{Context, Shape, Fixed, Leaves, AnyOne, TwoAlike, plain_shape, listed, result_of, type_of, found, unless}
use Rattle.wasm2js_translation.specs.Bodies.{after_form, types_after_call}
use Rattle.wasm2js_translation.specs.Rooms.{wide_from}
use Rattle.wasm2js_rooms.specs.Places.{Spot, next_spots, AreKnown}

wide_low : (b : ℕ) (ts : List ValType) → wide_from b ts ≤ b + length ts
wide_low b [] = omega arith
wide_low b (I32 ∷ ts) = omega (arith, wide_low b ts)
wide_low b (I64 ∷ ts) = omega arith

wide_drop : (b n : ℕ) (ts : List ValType) → wide_from b (drop n ts) ≤ wide_from b ts
wide_drop b zero ts = omega arith
wide_drop b (suc n) [] = omega arith
wide_drop b (suc n) (I32 ∷ ts) = wide_drop b n ts
wide_drop b (suc n) (I64 ∷ ts) = omega (arith, wide_drop b n ts, wide_low b ts)

-- operands are taken, and one may be given
given : (b n : ℕ) (o : Option ValType) (ts : List ValType) → wide_from b (drop 1 (listed o ++ drop n ts)) ≤ wide_from b ts
given b n None ts = omega (arith, wide_drop b 1 (drop n ts), wide_drop b n ts)
given b n (Some t) ts = wide_drop b n ts

-- a shape that gives at most one operand
abbrev IsNarrow : Result Shape Rule → Type 0
IsNarrow (Ok (Fixed takes [])) = Unit {0}
IsNarrow (Ok (Fixed takes (t ∷ []))) = Unit {0}
IsNarrow (Ok (Fixed takes (t ∷ u ∷ ts))) = ⊥
IsNarrow (Ok (Leaves takes)) = Unit {0}
IsNarrow (Ok AnyOne) = Unit {0}
IsNarrow (Ok TwoAlike) = Unit {0}
IsNarrow (Err r) = Unit {0}

after_narrow : (b : ℕ) (s : Result Shape Rule) (ts : List ValType) → IsNarrow s → wide_from b (drop 1 (after_form s ts)) ≤ wide_from b ts
after_narrow b (Ok (Fixed takes [])) ts h = given b (length takes) None ts
after_narrow b (Ok (Fixed takes (t ∷ []))) ts h = given b (length takes) (Some t) ts
after_narrow b (Ok (Fixed takes (t ∷ u ∷ us))) ts h = absurd h
after_narrow b (Ok (Leaves takes)) ts h = omega arith
after_narrow b (Ok AnyOne) ts h = given b 1 None ts
after_narrow b (Ok TwoAlike) ts h = given b 2 None ts
after_narrow b (Err r) ts h = wide_drop b 1 ts

found_narrow : {A : Type 0} (r : Rule) (o : Option A) (f : A → Shape) → ((x : A) → IsNarrow (Ok (f x))) → IsNarrow (found r o f)
found_narrow r None f h = tt
found_narrow r (Some x) f h = h x

unless_narrow : (b : Bool) (r : Rule) (s : Shape) → IsNarrow (Ok s) → IsNarrow (unless b r s)
unless_narrow true r s h = h
unless_narrow false r s h = tt

narrow : (c : Context) (p : Plain) → IsNarrow (plain_shape c p)
narrow c flat.nop = tt
narrow c flat.drop_operand = tt
narrow c flat.select = tt
narrow c (flat.local_get x) = found_narrow _ (slice_get c.locals x) _ (λ t. tt)
narrow c (flat.local_set x) = found_narrow _ (slice_get c.locals x) _ (λ t. tt)
narrow c (flat.local_tee x) = found_narrow _ (slice_get c.locals x) _ (λ t. tt)
narrow c (flat.global_get x) = found_narrow _ (slice_get c.globals x) _ (λ g. tt)
narrow c (flat.global_set x) = found_narrow _ (slice_get c.globals x) _ (λ g. tt)
narrow c (flat.load op align offset) = unless_narrow c.memory _ _ tt
narrow c (flat.store op align offset) = unless_narrow c.memory _ _ tt
narrow c flat.memory_size = unless_narrow c.memory _ _ tt
narrow c flat.memory_copy = unless_narrow c.memory _ _ tt
narrow c flat.memory_fill = unless_narrow c.memory _ _ tt
narrow c (flat.const32 n) = tt
narrow c (flat.const64 n) = tt
narrow c flat.eqz32 = tt
narrow c flat.eqz64 = tt
narrow c (flat.rel32 op) = tt
narrow c (flat.rel64 op) = tt
narrow c (flat.un32 op) = tt
narrow c (flat.un64 op) = tt
narrow c (flat.bin32 op) = tt
narrow c (flat.bin64 op) = tt
narrow c flat.wrap = tt
narrow c flat.extend_s = tt
narrow c flat.extend_u = tt
narrow c (flat.sign_extend wide bits) = tt

after_known_call : (b : ℕ) (o : Option FunctionType) (ts : List ValType) → wide_from b (drop 1 (types_after_call o ts)) ≤ wide_from b ts
after_known_call b None ts = wide_drop b 1 ts
after_known_call b (Some t) ts = given b (length t.params) (result_of t) ts

-- ---- the places that follow one whose operands have been noted

lower : (m n k : ℕ) → m ≤ n → n ≤ k → m ≤ k
lower m n k a b = omega (arith, a, b)

module _ (c : Context) (body : List Instruction) (w : ℕ) (s : Spot) (noted : wide_from s.base s.types ≤ w) where
  past_block : (o : Option ValType) → wide_from s.base (drop 1 (listed o ++ s.types)) ≤ w
  past_block o = lower _ _ w (given s.base 0 o s.types) noted

  past_if : (o : Option ValType) → wide_from s.base (drop 1 (listed o ++ drop 1 s.types)) ≤ w
  past_if o = lower _ _ w (given s.base 1 o s.types) noted

  nothing_inside : 0 ≤ w
  nothing_inside = omega arith

  pub next_known : (i : Instruction) → AreKnown w (next_spots c body s i)
  next_known flat.unreachable = tt
  next_known (flat.block r) = (past_block r, (nothing_inside, tt))
  next_known (flat.loop r) = (past_block r, (nothing_inside, tt))
  next_known (flat.if_block r) = (past_if r, (nothing_inside, (nothing_inside, tt)))
  next_known flat.else_mark = tt
  next_known flat.end_mark = tt
  next_known (flat.br k) = tt
  next_known (flat.br_if k) = (lower _ _ w (given s.base 1 None s.types) noted, tt)
  next_known (flat.br_table ks d) = tt
  next_known flat.return = tt
  next_known (flat.call f) = (lower _ _ w (after_known_call s.base (type_of c f) s.types) noted, tt)
  next_known (flat.call_indirect t) =
      let past = after_known_call s.base (slice_get c.types t) (drop 1 s.types) in
      (lower _ _ w past (lower _ _ w (wide_drop s.base 1 s.types) noted), tt)
  next_known (flat.plain p) = (lower _ _ w (after_narrow s.base (plain_shape c p) s.types (narrow c p)) noted, tt)

-- ---- lists of places

pub raised : (v w : ℕ) (ss : List Spot) → v ≤ w → AreKnown v ss → AreKnown w ss
raised v w [] h k = tt
raised v w (s ∷ ss) h k = (lower _ v w k.0 h, raised v w ss h k.1)

pub known_append : (w : ℕ) (ss rs : List Spot) → AreKnown w ss → AreKnown w rs → AreKnown w (ss ++ rs)
known_append w [] rs a b = b
known_append w (s ∷ ss) rs a b = (a.0, known_append w ss rs a.1 b)

pub record BothKnown (w : ℕ) (ss rs : List Spot) : Type 0 where
  pub first : AreKnown w ss
  pub second : AreKnown w rs

pub both_known : (w : ℕ) (ss rs : List Spot) → AreKnown w (ss ++ rs) → BothKnown w ss rs
both_known w [] rs h = record { first = tt; second = h }
both_known w (s ∷ ss) rs h = let b = both_known w ss rs h.1 in record { first = (h.0, b.first); second = b.second }
