-- What stands round a statement, and where jumps go from it, as the code holds them.
use Rattle.std.specs.Prelude.{◌≡◌, ℕ, List, ◌∷◌, Option, None}
use Rattle.std.specs.Option.{unwrap_or}
use Rattle.asm_run_emit_bodies.specs.Targets.{Target, found, those}
use Rattle.asm_run_code.specs.Bodies as code
use Rattle.asm_run_code.specs.Bodies.{Around, a_loop, a_switch, a_named}
use Rattle.asm_run_emit_bodies.specs.declared.jumps.Jumps.{Jumps}

-- the place where a jump without a label goes
abbrev pub unlabelled : ℕ → Target
unlabelled at = record { label = None; at = at }

-- where jumps go from a statement inside this one
abbrev pub inside : Around → Jumps → Jumps
inside (a_loop own next past) j = record { breaks = unlabelled past ∷ j.breaks; continues = unlabelled next ∷ those own next j.continues }
inside (a_switch past) j = record { breaks = unlabelled past ∷ j.breaks; continues = j.continues }
inside (a_named ns past) j = record { breaks = those ns past j.breaks; continues = j.continues }

abbrev pub address : List Target → Option (List ℕ) → ℕ
address ts label = unwrap_or (found ts label) 0

-- jumps go where they go inside these
pub record Meets (j : Jumps) (around : List Around) : Type 0 where
  pub breaks : (label : Option (List ℕ)) → address j.breaks label ≡ code.break_address around label
  pub continues : (label : Option (List ℕ)) → address j.continues label ≡ code.continue_address around label
