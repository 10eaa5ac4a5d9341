use Rattle.std.proofs.Common.{◌≡◌, ℕ, Bool, true, false, cond, List, [], ◌∷◌, ◌++◌, refl, ◌∙◌, arith}
use Rattle.std.specs.Prelude.{if◌then◌else◌}
use Rattle.std.specs.List.{flat_map}
use Rattle.wat_lang.specs.Grammar.{Marked}
use Rattle.wat_lang.specs.Names.{text_of, all_with}
use Rattle.wat_lang.specs.Modules.{is_bytes}
use Rattle.wat_marks.specs.declared.marked.MarkedToken.{MarkedToken}
use Rattle.wat_marks.specs.Views.{marked_of}
use Rattle.wat_read_tokens.specs.Marks.{marks_of}
use Rattle.wat_read_tokens.proofs.Steps.{grows, grown}
use Rattle.wat_read_fields.proofs.strings.segment_bytes.Goals as goal

abbrev read : List MarkedToken → List ℕ
read ts = flat_map text_of (all_with is_bytes (marks_of ts))

bytes_front : (m : Marked) (ms : List Marked) → flat_map text_of (all_with is_bytes (m ∷ ms)) ≡ (if is_bytes m.mark then text_of m else []) ++ flat_map text_of (all_with is_bytes ms)
bytes_front m ms = by (is_bytes m.mark)
  where
    by : (b : Bool) → flat_map text_of (cond b (m ∷ all_with is_bytes ms) (all_with is_bytes ms)) ≡ (if b then text_of m else []) ++ flat_map text_of (all_with is_bytes ms)
    by true = refl
    by false = refl

pub loop-token-preserved : goal.loop-token-preserved
loop-token-preserved c =
    let t = c.token-item.result in
    grows read read c.args.parts.now c.loop-token.token-index t c.loop-token.all.items _ _ (read c.args.parts.now) c.loop-token-test.true c.token-item.is
    (λ ts. bytes_front (marked_of t) (marks_of ts)) c.in_ok-push_bytes.ensures c.loop-token.invariant

pub returns : goal.returns
returns c =
    c.in_ok-text.ensures ∙ c.as_slice.ensures.value
    ∙ grown read c.args.parts.now c.loop-token.token-index c.loop-token.all.items (read c.args.parts.now) (omega (arith, c.loop-token-test.false)) refl c.loop-token.invariant
