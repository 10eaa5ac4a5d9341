use Rattle.wat_laws_again.proofs.Pieces.{signs_are_pieces}
use Rattle.wat_laws_again.proofs.Marked.{canonical_is_marked}
use Rattle.wat_laws_again.proofs.canonical_texts.Goals as goal

pub returns-clause-pieces : goal.returns-clause-pieces
returns-clause-pieces c = signs_are_pieces

pub returns-clause-marked : goal.returns-clause-marked
returns-clause-marked c = canonical_is_marked
