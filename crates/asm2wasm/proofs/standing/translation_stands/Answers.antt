use Rattle.asm2wasm.proofs.Stands as laws
use Rattle.asm2wasm.proofs.standing.translation_stands.Goals as goal

pub returns : goal.returns
returns c =
    laws.translation_stands c.translations.ensures.allowed c.translations.ensures.bounded c.sessions.ensures.no_traps c.limits.ensures
    c.shapes.ensures c.rooms.ensures.numbers c.rooms.ensures.sections c.writable.ensures
    c.functions.ensures.counted c.functions.ensures.as_many c.one_export.ensures.accepted c.one_export.ensures.well_formed c.one_export.ensures.translated c.calls.ensures.table c.tables_end_to_end.ensures c.profile.ensures
