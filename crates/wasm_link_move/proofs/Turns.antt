-- Moved code is written instruction by instruction.
use Rattle.std.proofs.Common.{◌≡◌, ℕ, ◌+◌, ◌-◌, ◌<◌, ◌≤◌, Bool, true, false, List, [], ◌∷◌, ◌++◌, length, map, take, get_or, refl, sym, ap, subst, ◌∙◌, arith, append_assoc, append-nil}
use Rattle.std.specs.Prelude.{Ok, Err, ◌||◌}
use Rattle.std.specs.List.{flat_map}
use Rattle.std.proofs.Math.Bool.{or_assoc}
use Rattle.std.proofs.lemmas.Grind.{flat_map-append}
use Rattle.std.proofs.lemmas.List.{map-append, take_more}
use Rattle.wasm_lang.specs.declared.fault.Fault.{Fault}
use Rattle.wasm_lang.specs.Instructions.{Instruction}
use Rattle.wasm_lang.specs.Reading.{Input}
use Rattle.wasm_lang.specs.ReadingCode.{instruction_field, spelled, spelled_within}
use Rattle.wasm_tree.specs.declared.instr.Instr.{Instr}
use Rattle.wasm_tree.specs.Views.{instr_of}
use Rattle.wasm_tree.proofs.Spelled.{spelled_step, spelled_stop, spelled_start}
use Rattle.wasm_binary_write.specs.Spelling.{instruction, items}
use Rattle.wasm_link_lang.specs.Pairs.{Pair}
use Rattle.wasm_link_lang.specs.Refusal.{has_indirect, is_indirect}
use Rattle.wasm_link_move.specs.Moved.{pushed}

items_then : (a b : List Instruction) → items instruction (a ++ b) ≡ items instruction a ++ items instruction b
items_then [] b = refl
items_then (i ∷ is) b = ap (λ l. instruction i ++ l) (items_then is b) ∙ sym (append_assoc (instruction i) (items instruction is) (items instruction b))

has_more : (is : List Instruction) (i : Instruction) → has_indirect (is ++ i ∷ []) ≡ (has_indirect is || is_indirect i)
has_more [] i = by (is_indirect i)
  where
    by : (t : Bool) → (t || false) ≡ t
    by true = refl
    by false = refl
has_more (j ∷ is) i = ap (λ t. is_indirect j || t) (has_more is i) ∙ sym (or_assoc (is_indirect j) (has_indirect is) (is_indirect i))

module _ (w : Pair) (second : Bool) (k : ℕ) where
  -- code that is done, written behind what was there, and whether a call by an entry is in it
  pub record IsDone (code : List Instruction) (before now : List ℕ) (indirect : Bool) : Type 0 where
    pub put : now ≡ before ++ items instruction (flat_map (pushed w second k) code)
    pub said : indirect ≡ has_indirect code

  pub none_done : (before now : List ℕ) → now ≡ before → IsDone [] before now false
  none_done before now same = record { put = same ∙ sym (append-nil before); said = refl }

  pub one_done : (code : List Instruction) (i : Instruction) (before middle now : List ℕ) (indirect found all : Bool) → IsDone code before middle indirect
      → now ≡ middle ++ items instruction (pushed w second k i) → found ≡ is_indirect i → all ≡ (indirect || found) → IsDone (code ++ i ∷ []) before now all
  one_done code i before middle now indirect found all d one is both =
      let f = pushed w second k in
      record {
        put =
            one ∙ ap (λ l. l ++ items instruction (f i)) d.put ∙ append_assoc before (items instruction (flat_map f code)) (items instruction (f i))
            ∙ ap (λ l. before ++ l) (sym (items_then (flat_map f code) (f i)))
            ∙ ap (λ l. before ++ items instruction (flat_map f code ++ l)) (sym (append-nil (f i)))
            ∙ ap (λ l. before ++ items instruction l) (sym (flat_map-append f code (i ∷ [])));
        said = both ∙ ap (λ b. b || found) d.said ∙ ap (λ b. has_indirect code || b) is ∙ sym (has_more code i);
      }

  -- ---- a list

  pub listed_step : (list : List Instr) (i : ℕ) (one : Instr) (before middle now : List ℕ) (indirect found all : Bool) → i < length list → one ≡ get_or list i one → IsDone (map instr_of (take i list)) before middle indirect
      → now ≡ middle ++ items instruction (pushed w second k (instr_of one)) → found ≡ is_indirect (instr_of one) → all ≡ (indirect || found) → IsDone (map instr_of (take (i + 1) list)) before now all
  listed_step list i one before middle now indirect found all h at d put said both =
      let more : map instr_of (take (i + 1) list) ≡ map instr_of (take i list) ++ instr_of one ∷ [] =
      ap (map instr_of) (take_more list i one h ∙ ap (λ x. take i list ++ x ∷ []) (sym at)) ∙ map-append instr_of (take i list) (one ∷ []) in
      subst (λ code. IsDone code before now all) (sym more) (one_done (map instr_of (take i list)) (instr_of one) before middle now indirect found all d put said both)

  -- ---- bytes

  -- what is done of the bytes, and what is left
  pub record IsTurn (bytes : List ℕ) (turn : ℕ) (rest : Input) (before now : List ℕ) (indirect : Bool) : Type 0 where
    pub code : List Instruction
    pub read : spelled bytes ≡ code ++ spelled_within (length bytes - turn) rest
    pub done : IsDone code before now indirect

  pub turn_start : (bytes : List ℕ) (rest : Input) (before now : List ℕ) → rest ≡ record { at = 0; bytes = bytes } → now ≡ before → IsTurn bytes 0 rest before now false
  turn_start bytes rest before now is same = record { code = []; read = spelled_start bytes [] rest refl is; done = none_done before now same }

  pub turn_step : (bytes : List ℕ) (turn : ℕ) (rest next : Input) (i : Instruction) (before middle now : List ℕ) (indirect found all : Bool) → turn < length bytes
      → IsTurn bytes turn rest before middle indirect → instruction_field rest ≡ Ok (i, next) → now ≡ middle ++ items instruction (pushed w second k i) → found ≡ is_indirect i → all ≡ (indirect || found)
      → IsTurn bytes (turn + 1) next before now all
  turn_step bytes turn rest next i before middle now indirect found all h t field one is both = record {
    code = t.code ++ i ∷ [];
    read = t.read ∙ spelled_step (length bytes) turn t.code rest next i h field;
    done = one_done t.code i before middle now indirect found all t.done one is both;
  }

  all_done : (bytes before now : List ℕ) (indirect : Bool) (code : List Instruction) → IsDone code before now indirect → spelled bytes ≡ code → IsDone (spelled bytes) before now indirect
  all_done bytes before now indirect code d is = record { put = d.put ∙ ap (λ c. before ++ items instruction (flat_map (pushed w second k) c)) (sym is); said = d.said ∙ ap has_indirect (sym is) }

  pub turn_end : (bytes : List ℕ) (turn : ℕ) (rest : Input) (before now : List ℕ) (indirect : Bool) → length bytes ≤ turn → IsTurn bytes turn rest before now indirect → IsDone (spelled bytes) before now indirect
  turn_end bytes turn rest before now indirect h t =
      let none : length bytes - turn ≡ 0 = omega arith in
      all_done bytes before now indirect t.code t.done (t.read ∙ ap (λ n. t.code ++ spelled_within n rest) none ∙ append-nil t.code)

  pub turn_stop : (bytes : List ℕ) (turn : ℕ) (rest : Input) (before now : List ℕ) (indirect : Bool) (fault : Fault) → turn < length bytes → instruction_field rest ≡ Err fault
      → IsTurn bytes turn rest before now indirect → IsDone (spelled bytes) before now indirect
  turn_stop bytes turn rest before now indirect fault h field t = all_done bytes before now indirect t.code t.done (t.read ∙ spelled_stop (length bytes) turn t.code rest fault h field)
