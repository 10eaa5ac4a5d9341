-- What is put into a tree that is put in: how the facts of a state's function pass to the functions made of it.
use Rattle.std.proofs.Common.{ℕ, ◌≤◌, ◌+◌, max, arith}
use Rattle.asm_lang.specs.Trees.{StmtTree}
use Rattle.asm_lang.specs.TreeHeights.{stmt_height, body_height}
use Rattle.asm_laws_height.proofs.Bounds.{Holds, HoldsStmt, none}

pub up : {A : Type 0} {high floor top : A → ℕ} → Holds high floor top → (a b : A) → high a ≤ high b → floor a ≤ floor b
up h a b le = omega (arith, h.rises 0 a b (omega arith))

pub up_stmt : {floor top : StmtTree → ℕ} → HoldsStmt floor top → (s r : StmtTree) → stmt_height s ≤ stmt_height r → body_height s ≤ body_height r → floor s ≤ floor r
up_stmt h s r le low = omega (arith, h.rises 0 s r (omega arith) (omega arith))

-- where nothing ends
pub silent : {A : Type 0} {high floor top : A → ℕ} → Holds high floor top → Holds high floor none
silent h = record { covers = h.covers; rises = h.rises; tops = λ a. omega (arith, h.covers a) }

-- where the tree itself may end
pub itself : {A : Type 0} {high floor top : A → ℕ} → Holds high floor top → Holds high floor (λ a. max (high a) (top a))
itself h = record { covers = h.covers; rises = h.rises; tops = λ a. omega (arith, h.covers a, h.tops a) }

-- a tree in another one
pub inside : {A B : Type 0} {high floor top : B → ℕ} (low : A → ℕ) (f : A → B) → Holds high floor top → ((a : A) → low a ≤ high (f a)) → ((d : ℕ) (a b : A) → low a ≤ d + low b → high (f a) ≤ d + high (f b))
    → Holds low (λ a. floor (f a)) (λ a. top (f a))
inside low f h up more = record {
  covers = λ a. omega (arith, up a, h.covers (f a));
  rises = λ d a b le. h.rises d (f a) (f b) (more d a b le);
  tops = λ a. h.tops (f a);
}

-- a tree in a statement
pub in_stmt : {A : Type 0} {floor top : StmtTree → ℕ} (low : A → ℕ) (f : A → StmtTree) → HoldsStmt floor top → ((a : A) → low a ≤ stmt_height (f a))
    → ((d : ℕ) (a b : A) → low a ≤ d + low b → (stmt_height (f a) ≤ d + stmt_height (f b)) × (body_height (f a) ≤ d + body_height (f b))) → Holds low (λ a. floor (f a)) (λ a. top (f a))
in_stmt low f h up more = record {
  covers = λ a. omega (arith, up a, h.covers (f a));
  rises = λ d a b le. let m = more d a b le in h.rises d (f a) (f b) m.0 m.1;
  tops = λ a. h.tops (f a);
}

-- a statement in another one
pub round : {floor top : StmtTree → ℕ} (f : StmtTree → StmtTree) → HoldsStmt floor top → ((s : StmtTree) → stmt_height s ≤ stmt_height (f s))
    → ((d : ℕ) (s r : StmtTree) → stmt_height s ≤ d + stmt_height r → body_height s ≤ d + body_height r → (stmt_height (f s) ≤ d + stmt_height (f r)) × (body_height (f s) ≤ d + body_height (f r)))
    → HoldsStmt (λ s. floor (f s)) (λ s. top (f s))
round f h up more = record {
  covers = λ s. omega (arith, up s, h.covers (f s));
  rises = λ d s r le low. let m = more d s r le low in h.rises d (f s) (f r) m.0 m.1;
  tops = λ s. h.tops (f s);
}
