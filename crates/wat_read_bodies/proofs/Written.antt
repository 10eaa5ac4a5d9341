-- Immediates that are written, and what stands for those that aren't.
use Rattle.std.proofs.Common.{◌≡◌, ℕ, List, Option, Some, None, ap, ◌∙◌}
use Rattle.std.specs.Prelude.{unwrap_or, ℤ, pos}
use Rattle.wasm_lang.specs.declared.types.MemOp.{MemOp}
use Rattle.wat_lang.specs.Grammar.{Marked}
use Rattle.wat_lang.specs.Names.{first_with}
use Rattle.wat_lang.specs.Modules.{natural_or_0, exponent_of, offset_of, alignment_of, is_offset, is_alignment, align_in, offset_in}

abbrev offset_by : Option Marked → ℕ
offset_by o = elim o [ Some m ↦ natural_or_0 (offset_of m) | None ↦ 0 ]

pub offset_written : (ms : List Marked) (m : Marked) (n : ℕ) (z : Option ℤ) → Some m ≡ first_with is_offset ms → Some (pos n) ≡ z → z ≡ offset_of m → n ≡ offset_in ms
offset_written ms m n z e h w = ap natural_or_0 (h ∙ w) ∙ ap offset_by e

pub no_offset : (ms : List Marked) → None ≡ first_with is_offset ms → 0 ≡ offset_in ms
no_offset ms e = ap offset_by e

abbrev align_by : MemOp → Option Marked → ℕ
align_by op o = unwrap_or (exponent_of (elim o [ Some m ↦ natural_or_0 (alignment_of m) | None ↦ op.size ])) 0

pub align_written : (op : MemOp) (ms : List Marked) (m : Marked) (r : Option ℕ) (z : Option ℤ) → Some m ≡ first_with is_alignment ms → r ≡ exponent_of (natural_or_0 z) → z ≡ alignment_of m → unwrap_or r 0 ≡ align_in op ms
align_written op ms m r z e h w =
    ap (λ (o : Option ℕ). unwrap_or o 0) (h ∙ ap (λ (y : Option ℤ). exponent_of (natural_or_0 y)) w) ∙ ap (align_by op) e

pub align_natural : (op : MemOp) (ms : List Marked) (r : Option ℕ) → None ≡ first_with is_alignment ms → r ≡ exponent_of op.size → unwrap_or r 0 ≡ align_in op ms
align_natural op ms r e h = ap (λ (o : Option ℕ). unwrap_or o 0) h ∙ ap (align_by op) e
