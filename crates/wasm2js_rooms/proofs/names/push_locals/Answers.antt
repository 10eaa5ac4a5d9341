use Rattle.std.proofs.Common.{◌+◌, [], ◌++◌, get_or, map, drop, ap, sym, ◌∙◌}
use Rattle.std.specs.Prelude.{if◌then◌else◌}
use Rattle.wasm_lang.specs.declared.types.ValType.TheVariants.{I32}
use Rattle.wasm2js_translation.specs.Pairs.{local_pair, names_of}
use Rattle.wasm2js_nodes.specs.Names.{name_view}
use Rattle.wasm2js_rooms.specs.Flags.{flagged_names}
use Rattle.wasm2js_rooms.proofs.Flags.{next_flagged, one_more}
use Rattle.wasm2js_rooms.proofs.names.push_locals.Goals as goal

pub loop-number-preserved : goal.loop-number-preserved
loop-number-preserved c =
    let n = c.loop-number.number in
    let flags = c.args.room.now.named in
    let locals = c.args.locals.now in
    let old = map name_view c.loop-number.names.items in
    let now = if c.index.result.now then names_of (get_or locals n I32) (local_pair n) else [] in
    let rest = flagged_names flags.items (n + 1) (drop (n + 1) locals) in
    one_more (map name_view c.args.names.now.items ++ flagged_names flags.items c.args.params (drop c.args.params locals)) old (map name_view c.push_if_named.new.names.items) now rest
    (c.loop-number.invariant ∙ ap (λ ns. old ++ ns) (next_flagged flags.items n locals I32 c.index.result.now c.loop-number-test.true (sym flags.ok.0 ∙ c.requires) c.index.ensures))
    c.in_ok-push_if_named.ensures
