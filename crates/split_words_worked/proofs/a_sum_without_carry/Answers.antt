use Rattle.split_words_worked.proofs.Carry.{not_a_sum}
use Rattle.split_words_worked.proofs.a_sum_without_carry.Goals as goal

pub returns : goal.returns
returns c = not_a_sum
