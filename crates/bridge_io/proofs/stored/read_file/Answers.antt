use Rattle.std.proofs.Common.{ap, sym, refl, ◌∙◌, Some}
use Rattle.std.specs.Option.{option_map}
use Rattle.bridge_io.proofs.FilesOf.{content-files_of}
use Rattle.bridge_io.proofs.stored.read_file.Goals as goal

pub returns-in-None : goal.returns-in-None
returns-in-None c =
    (content-files_of c.args.stored.now c.args.name.now ∙ ap (option_map (λ content. content.items)) (sym c.in-None.ensures.value), refl)

pub returns-in-Some : goal.returns-in-Some
returns-in-Some c = (
  c.deref.result.now,
  content-files_of c.args.stored.now c.args.name.now
      ∙ (ap (option_map (λ content. content.items)) (sym c.in-Some.ensures.value) ∙ ap (λ content. Some content) (sym c.deref.ensures.value)),
  c.copy_piece.ensures.count,
  c.copy_piece.ensures.bytes,
)
