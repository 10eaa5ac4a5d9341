-- Locals that typed code names are there.
use Rattle.std.proofs.Common.{◌≡◌, ℕ, zero, suc, ◌<◌, Bool, true, false, ◌||◌, List, [], ◌∷◌, length, None, refl, sym, subst, arith}
use Rattle.std.specs.Prelude.{Ok, slice_get, ◌==◌}
use Rattle.std.proofs.lemmas.Bool.Decides.{nat_tests}
use Rattle.wasm_lang.specs.declared.types.ValType.{ValType}
use Rattle.wasm_lang.specs.Instructions as flat
use Rattle.wasm_lang_valid.specs.declared.rule.Rule.TheVariants.{NoLocal}
use Rattle.wasm_lang_valid.specs.Typing.{Context, Shape, found, plain_shape, listed, inside}
use Rattle.wasm_lang_exec.specs.Code.{unreachable, block, loop, if_block, br, br_if, br_table, return, call, call_indirect, plain, ε, ◌▹◌}
use Rattle.wasm_laws_widths.specs.Depth.{plain_names, names}
use Rattle.wasm_laws_widths.specs.Laws.{NamedLocalsExist}

either : (P : Type 0) (a b : Bool) → (a || b) ≡ true → (a ≡ true → P) → (b ≡ true → P) → P
either P true b h p q = p refl
either P false b h p q = q h

is_there : {A : Type 0} (xs : List A) (x : ℕ) (f : A → Shape) (s : Shape) → found NoLocal (slice_get xs x) f ≡ Ok s → x < length xs
is_there [] x f s h = cc h
is_there (y ∷ xs) zero f s h = omega arith
is_there (y ∷ xs) (suc x) f s h = let more = is_there xs x f s h in omega (arith, more)

same_number : (x y : ℕ) → (x == y) ≡ true → x ≡ y
same_number x y h = grind (arith, nat_tests)

module _ (c : Context) (x : ℕ) where
  local_there : (y : ℕ) (f : ValType → Shape) (s : Shape) → found NoLocal (slice_get c.locals y) f ≡ Ok s → (x == y) ≡ true → x < length c.locals
  local_there y f s has h = subst (λ y. y < length c.locals) (sym (same_number x y h)) (is_there c.locals y f s has)

  plain_there : (p : flat.Plain) (s : Shape) → plain_shape c p ≡ Ok s → plain_names x p ≡ true → x < length c.locals
  plain_there (flat.local_get y) s has h = local_there y _ s has h
  plain_there (flat.local_set y) s has h = local_there y _ s has h
  plain_there (flat.local_tee y) s has h = local_there y _ s has h
  plain_there _ s has h = cc h

-- the code after an instruction that opens no block is typed
pub named_locals_exist : NamedLocalsExist
named_locals_exist c ε before after x typed h = cc h
named_locals_exist c (block r body ▹ code) before after x typed h =
    either (x < length c.locals) (names x body) (names x code) h (named_locals_exist (inside r c) body [] (listed r) x typed.0) (named_locals_exist c code _ after x typed.1)
named_locals_exist c (loop r body ▹ code) before after x typed h =
    either (x < length c.locals) (names x body) (names x code) h (named_locals_exist (inside None c) body [] (listed r) x typed.0) (named_locals_exist c code _ after x typed.1)
named_locals_exist c (if_block r first second ▹ code) before after x typed h =
    either (x < length c.locals) (names x first) _ h (named_locals_exist (inside r c) first [] (listed r) x typed.2)
    (λ h. either (x < length c.locals) (names x second) (names x code) h (named_locals_exist (inside r c) second [] (listed r) x typed.3) (named_locals_exist c code _ after x typed.4))
named_locals_exist c (unreachable ▹ code) before after x typed h = cc h
named_locals_exist c (br l ▹ code) before after x typed h = cc h
named_locals_exist c (br_if l ▹ code) before after x typed h = named_locals_exist c code _ after x typed.goes_on h
named_locals_exist c (br_table ls d ▹ code) before after x typed h = cc h
named_locals_exist c (return ▹ code) before after x typed h = cc h
named_locals_exist c (call f ▹ code) before after x typed h = named_locals_exist c code _ after x typed.goes_on h
named_locals_exist c (call_indirect t ▹ code) before after x typed h = named_locals_exist c code _ after x typed.goes_on h
named_locals_exist c (plain p ▹ code) before after x typed h =
    either (x < length c.locals) (plain_names x p) (names x code) h (plain_there c x p typed.form typed.has_form) (named_locals_exist c code _ after x typed.goes_on)
