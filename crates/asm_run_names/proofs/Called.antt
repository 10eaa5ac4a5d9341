-- What a name calls that means this.
use Rattle.std.proofs.Common.{◌≡◌, ℕ, List, Option, Some, Result, sym, ap, subst, ◌∙◌}
use Rattle.std.specs.Prelude.{IfOk}
use Rattle.sem_words.specs.Lists.{text_bytes}
use Rattle.asm_lang.specs.Modules.{Module}
use Rattle.asm_names.specs.declared.meaning.Meaning.{Meaning}
use Rattle.asm_names.specs.declared.meaning.Meaning.TheVariants as meanings
use Rattle.asm_names.specs.declared.meaning.Member.{Member}
use Rattle.asm_names.specs.Meanings.{meaning_view}
use Rattle.asm_names.specs.Members.{IsNumbered, IsMember}
use Rattle.asm_run_names.specs.declared.callee.Callee.{Callee}
use Rattle.asm_run_names.specs.declared.callee.Callee.TheVariants.{Foreign}
use Rattle.asm_run_names.specs.Callees.{callee_of}
use Rattle.asm_run_names.proofs.Found.{same_number}

-- what was answered leads on to what the name calls
pub by_meaning : {E : Type 0} (r : Result Callee E) (m : Module) (n : List ℕ) (k l : Option Meaning) (x : Callee) → k ≡ l → x ≡ callee_of m n (meaning_view l) → IfOk r (λ c. c ≡ x) → IfOk r (λ c. c ≡ callee_of m n (meaning_view k))
by_meaning r m n k l x is same h = subst (λ y. IfOk r (λ c. c ≡ y)) (same ∙ ap (λ (k : Option Meaning). callee_of m n (meaning_view k)) (sym is)) h

pub foreign_called : {E : Type 0} (r : Result Callee E) (m : Module) (n : List ℕ) (k : Option Meaning) (f : Member) → k ≡ Some (meanings.Foreign f) → IsNumbered m k → IfOk r (λ c. c ≡ Foreign f.declaration) → IfOk r (λ c. c ≡ callee_of m n (meaning_view k))
foreign_called r m n k f is numbered h =
    let member : IsMember m (text_bytes f.name.now) f.declaration = subst (IsNumbered m) is numbered in
    by_meaning r m n k (Some (meanings.Foreign f)) (Foreign f.declaration) is (ap Foreign (sym member.first ∙ same_number m.globals (text_bytes f.name.now))) h
