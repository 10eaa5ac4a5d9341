-- The text of each row says its module.
use Rattle.std.specs.Prelude.{◌≡◌, ℕ, List, Some, refl}
use Rattle.asm_lang_tokens.specs.Forms.{is_punctuator}
use Rattle.asm_lang.specs.Modules.{Module}
use Rattle.asm_lang_valid.specs.Refusal.{IsAccepted}
use Rattle.asm_worked.specs.Worked.{Says}
use Rattle.asm_worked.specs.Rows as rows
use Rattle.asm_worked.proofs.Read.{said, text_says}

says : (text : List ℕ) (m : Module) → said text ≡ Some m → IsAccepted m → Says text m
says text m e accepted = record { is_text = text_says text m e; is_accepted = accepted }

pub sum_says : Says rows.sum_text rows.sum
unfolding is_punctuator
sum_says = says rows.sum_text rows.sum refl refl

pub quotient_says : Says rows.quotient_text rows.quotient
unfolding is_punctuator
quotient_says = says rows.quotient_text rows.quotient refl refl

pub comparison_says : Says rows.comparison_text rows.comparison
unfolding is_punctuator
comparison_says = says rows.comparison_text rows.comparison refl refl

pub outside_says : Says rows.outside_text rows.outside
unfolding is_punctuator
outside_says = says rows.outside_text rows.outside refl refl

pub mixed_says : Says rows.mixed_text rows.mixed
unfolding is_punctuator
mixed_says = says rows.mixed_text rows.mixed refl refl

pub two_shapes_says : Says rows.two_shapes_text rows.two_shapes
unfolding is_punctuator
two_shapes_says = says rows.two_shapes_text rows.two_shapes refl refl

pub asking_says : Says rows.asking_text rows.asking
unfolding is_punctuator
asking_says = says rows.asking_text rows.asking refl refl

pub forever_says : Says rows.forever_text rows.forever
unfolding is_punctuator
forever_says = says rows.forever_text rows.forever refl refl

pub tabled_says : Says rows.tabled_text rows.tabled
unfolding is_punctuator
tabled_says = says rows.tabled_text rows.tabled refl refl

pub falling_says : Says rows.falling_text rows.falling
unfolding is_punctuator
falling_says = says rows.falling_text rows.falling refl refl

pub evens_says : Says rows.evens_text rows.evens
unfolding is_punctuator
evens_says = says rows.evens_text rows.evens refl refl

pub triangle_says : Says rows.triangle_text rows.triangle
unfolding is_punctuator
triangle_says = says rows.triangle_text rows.triangle refl refl

pub ordered_says : Says rows.ordered_text rows.ordered
unfolding is_punctuator
ordered_says = says rows.ordered_text rows.ordered refl refl

pub counter_says : Says rows.counter_text rows.counter
unfolding is_punctuator
counter_says = says rows.counter_text rows.counter refl refl

pub heard_says : Says rows.heard_text rows.heard
unfolding is_punctuator
heard_says = says rows.heard_text rows.heard refl refl
