use Rattle.std.proofs.lemmas.List.{get_or_default}
use Rattle.std.proofs.Common.{◌<◌, length, get_or, ◌+◌, arith}
use Rattle.wat_read_names.specs.Bound.{space_names}
use Rattle.wat_read_bodies.proofs.Good.{rest_good}
use Rattle.wat_read_fields.proofs.Exported.{exported_here, exported_later, none_exported}
use Rattle.wat_read_fields.proofs.kinds.export_kind_in.Goals as goal

pub exported_at-requires : goal.exported_at-requires
exported_at-requires c = rest_good (c.loop-n.n + 1) c.args.parts.now c.requires

pub returns-in-Some : goal.returns-in-Some
returns-in-Some c =
    let ts = c.args.parts.now in
    let n = c.loop-n.n in
    let within : n < length ts = omega arith in
    let t = get_or ts n c.index-parts-n.result in
    exported_here (space_names c.args.spaces.now) ts n t c.in-Some.kind _ within (get_or_default ts n c.index-parts-n.result t within) c.in-Some.ensures c.loop-n.invariant

pub loop-n-preserved : goal.loop-n-preserved
loop-n-preserved c =
    let ts = c.args.parts.now in
    let n = c.loop-n.n in
    let within : n < length ts = omega arith in
    let t = get_or ts n c.index-parts-n.result in
    exported_later (space_names c.args.spaces.now) ts n t _ within (get_or_default ts n c.index-parts-n.result t within) c.in_default.ensures c.loop-n.invariant

pub returns : goal.returns
returns c = none_exported (space_names c.args.spaces.now) c.args.parts.now c.loop-n.n _ (omega arith) c.loop-n.invariant
