-- What a sink has of chunks.
use Rattle.std.proofs.Common.{◌≡◌, ◌<◌, ◌+◌, ℕ, List, ◌++◌, length, take, get_or, refl, sym, ap, ◌∙◌, subst, arith, append_assoc, length-append}
use Rattle.std.specs.Prelude.{Option, Some, None, Vec, Result, Ok, Err, OnErr}
use Rattle.std.specs.declared.alloc.Global.{Global}
use Rattle.std.proofs.lemmas.List.{take-append-le}
use Rattle.std.proofs.Math.Seq.{take-append-add}
use Rattle.bridge_io.specs.Outside.{appended}
use Rattle.shared_bytes.specs.Chunks.{chunk, joined}
use Rattle.shared_bytes.proofs.Joined.{joined_front, cut_at, cut_within}

twice : (told : Option (List ℕ)) (a b : List ℕ) → appended (appended told a) b ≡ appended told (a ++ b)
twice None a b = refl
twice (Some before) a b = ap Some (append_assoc before a b)

pub put_more : (cs : List (Vec ℕ Global)) (is piece : List ℕ) (i : ℕ) (old t u : Option (List ℕ)) → i < length is → piece ≡ chunk cs (get_or is i 0) → t ≡ appended old (joined cs (take i is)) → u ≡ appended t piece → u ≡ appended old (joined cs (take (i + 1) is))
put_more cs is piece i old t u h said before put =
    put ∙ ap (appended t) said ∙ ap (λ t. appended t (chunk cs (get_or is i 0))) before
    ∙ twice old (joined cs (take i is)) (chunk cs (get_or is i 0)) ∙ ap (appended old) (sym (joined_front cs is i 0 h))

-- a front of some bytes, as a sink has it where a write failed
abbrev pub IsCut : List ℕ → Option (List ℕ) → Option (List ℕ) → Type 0
IsCut bytes old new = (n : ℕ) × (n < length bytes) × (new ≡ appended old (take n bytes))

pub cut : {R : ℕ → Type 0} (bytes : List ℕ) (old new : Option (List ℕ)) → ((n : ℕ) × (n < length bytes) × (new ≡ appended old (take n bytes)) × R n) → IsCut bytes old new
cut bytes old new (n, below, put, more) = (n, below, put)

pub cut_chunk : (cs : List (Vec ℕ Global)) (is piece rest whole : List ℕ) (i : ℕ) (old t u : Option (List ℕ)) → i < length is → whole ≡ joined cs is ++ rest → piece ≡ chunk cs (get_or is i 0) → t ≡ appended old (joined cs (take i is)) → IsCut piece t u → IsCut whole old u
cut_chunk cs is piece rest whole i old t u h all said before (n, below, put) =
    let all_of = joined cs is in
    let front = joined cs (take i is) in
    let fits : n < length (chunk cs (get_or is i 0)) = subst (λ l. n < length l) said below in
    let within = cut_within cs is i 0 n h fits in
    let longer = ap length all ∙ length-append all_of rest in (
      length front + n,
      omega arith,
      put ∙ ap (λ l. appended t (take n l)) said ∙ ap (λ t. appended t (take n (chunk cs (get_or is i 0)))) before
          ∙ twice old front (take n (chunk cs (get_or is i 0)))
          ∙ ap (appended old) (cut_at cs is i 0 n h fits ∙ sym (take-append-le (length front + n) all_of rest (omega arith)) ∙ ap (take (length front + n)) (sym all)),
    )

pub cut_rest : (front rest piece whole : List ℕ) (old t u : Option (List ℕ)) → whole ≡ front ++ rest → piece ≡ rest → t ≡ appended old front → IsCut piece t u → IsCut whole old u
cut_rest front rest piece whole old t u all said before (n, below, put) =
    let fits : n < length rest = subst (λ l. n < length l) said below in
    let longer = ap length all ∙ length-append front rest in (
      length front + n,
      omega arith,
      put ∙ ap (λ l. appended t (take n l)) said ∙ ap (λ t. appended t (take n rest)) before
          ∙ twice old front (take n rest)
          ∙ ap (appended old) (sym (take-append-add front rest n) ∙ ap (take (length front + n)) (sym all)),
    )

pub on_err : {T E P : Type 0} (r : Result T E) → P → OnErr r P
on_err (Ok value) holds = tt
on_err (Err fault) holds = holds

pub if_err : {T E P Q : Type 0} (r : Result T E) → (P → Q) → OnErr r P → OnErr r Q
if_err (Ok value) leads holds = tt
if_err (Err fault) leads holds = leads holds
