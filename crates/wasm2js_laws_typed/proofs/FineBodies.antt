-- The statements of typed code are fine, by induction on its tree.
use Rattle.std.proofs.Common.{◌≡◌, ℕ, ◌+◌, ◌≤◌, max, Bool, true, false, List, [], ◌∷◌, ◌++◌, reverse, length, drop, Option, Some, None, Result, Ok, Err, is_some, refl, sym, ap, ◌∙◌, subst, arith, append_assoc}
use Rattle.std.specs.Prelude.{slice_get, if◌then◌else◌}
use Rattle.std.proofs.lemmas.Bool.{and_parts}
use Rattle.std.proofs.lemmas.List.{length-reverse}
use Rattle.std.proofs.Math.Seq.{drop-append_seam}
use Rattle.wasm_lang.specs.declared.types.ValType.{ValType}
use Rattle.wasm_lang.specs.declared.types.ValType.TheVariants.{I32, I64}
use Rattle.wasm_lang.specs.Instructions.{Plain}
use Rattle.wasm_lang.specs.Modules.{FunctionType}
use Rattle.wasm_lang_valid.specs.declared.rule.Rule.{Rule}
use Rattle.wasm_lang_valid.specs.declared.rule.Rule.TheVariants.{NoLabel, NoFunction, NoType, NoTable}
use Rattle.wasm_lang_valid.specs.Typing.{Context, Shape, Fixed, Leaves, Acts, found, unless, onward, listed, result_of as type_result, type_of, call_shape, plain_shape, all_labels, same_result, carries, alike}
use Rattle.wasm_lang_exec.specs.Code.{unreachable, block, loop, if_block, br, br_if, br_table, return, call, call_indirect, plain, Trees, ε, ◌▹◌}
use Rattle.wasm_laws_sound.specs.Trees.{IsTyped}
use Rattle.wasm_laws_trees.specs.Spelled.{tree_levels}
use Rattle.asm_lang.specs.Modules.{breaks}
use Rattle.asm_lang_valid.specs.Typing.{Scope, Around, result_of, in_a_loop, in_a_switch, has_label}
use Rattle.wasm2js_translation.specs.Words.{simply, stop, simple_statements, statements}
use Rattle.wasm2js_translation.specs.Delays.{Delayed, written, standing}
use Rattle.wasm2js_translation.specs.Known.{Known, into_block}
use Rattle.wasm2js_laws_terms.proofs.FineExprs.{higher}
use Rattle.wasm2js_laws_terms.proofs.FineActions.{action_fine}
use Rattle.wasm2js_laws_scopes.specs.Provided.{Called, Provides, HasRoom}
use Rattle.wasm2js_translation.specs.Actions.{under, low, actions_amid}
use Rattle.wasm2js_translation.specs.Bodies.{Aim, past, again, out, labels_round, label_name, written_but, asked, leave_late, jump, after_plain, comes_to_end, leaves, types_after_call, call_stmts, indirect_stmts, late_code, lean_code, stmts_of}
use Rattle.wasm2js_translation.specs.Rooms.{here, local_named, room_of, with_room}
use Rattle.wasm2js_laws_typed.specs.Constructs.{AllFine, EachFine, with_label, AreAims, LeavesResult, labels_for}
use Rattle.wasm2js_laws_typed.specs.Bodies.{IsFormedCode, CodeIsFine}
use Rattle.wasm2js_laws_typed.specs.Waiting.{AreSoundWaiting, AreShallow}
use Rattle.wasm2js_laws_typed.proofs.LateSound.{late_sound, standing_sound}
use Rattle.wasm2js_laws_typed.proofs.LateShallow.{late_shallow, standing_shallow}
use Rattle.wasm2js_laws_typed.proofs.LeanSound.{lean_sound}
use Rattle.wasm2js_laws_typed.proofs.LeanShallow.{lean_shallow}
use Rattle.wasm2js_laws_typed.proofs.SoundPlain.{plain_is_sound, of_fixed}
use Rattle.wasm2js_laws_typed.proofs.ShallowPlain.{plain_is_shallow}
use Rattle.wasm2js_laws_typed.proofs.FineBlocks.{all_join, is_higher, all_higher, blocks_are_fine, loops_are_fine, arms_are_fine, tests_are_fine}
use Rattle.wasm2js_laws_typed.proofs.FineJumps.{labels_are_new, returns_are_fine, jumps_are_fine}
use Rattle.wasm2js_laws_typed.proofs.FineWaiting.{actions_all, asked_fine, written_all, written_but_all, leave_late_fine, ended_fine}
use Rattle.wasm2js_laws_typed.proofs.FineCalls.{calls_are_fine, entry_calls_are_fine}
use Rattle.wasm2js_laws_typed.proofs.FineSwitches.{switches_are_fine}
use Rattle.wasm2js_laws_typed.proofs.RoomParts.{left_room, right_room, room_here}
use Rattle.wasm2js_laws_typed.proofs.TypedShapes.{same_shape, plain_after, leaving, branching}

-- ---- aims

pub aims_above : (result : Option ValType) (labels : List (Option ValType)) (ls : List Aim) (b e : ℕ) → b ≤ e → AreAims result labels ls b → AreAims result labels ls e
aims_above result labels [] b e le h = h
aims_above result labels (out q ∷ ls) b e le h = h
aims_above result labels (past base q ∷ ls) b e le h = (h.0, h.1, within h.2 le, h.3)
  where
    within : {k b e : ℕ} → k ≤ b → b ≤ e → k ≤ e
    within p q = omega (arith, p, q)
aims_above result labels (again base ∷ ls) b e le h = (h.0, h.1, within h.2 le, h.3)
  where
    within : {k b e : ℕ} → k ≤ b → b ≤ e → k ≤ e
    within p q = omega (arith, p, q)

-- ---- code

module _ (s : Scope) (c : Context) (is_called : Called) (bytes cells : ℕ) (given : Provides s c is_called bytes cells) (answers : result_of s ≡ is_some c.returns) where
  abbrev Goal : Trees → Type 0
  Goal code =
      (labels : List (Option ValType)) (ls : List Aim) (b : ℕ) (before after : List ValType) (a : Around) → IsTyped (record c { labels = labels }) code before after
      → IsFormedCode c.types is_called code → AreAims c.returns labels ls b → LeavesResult ls after → a.labels ≡ labels_for ls → HasRoom s c (room_of c code b before)
      → AllFine s a (30 + tree_levels code) (stmts_of bytes cells c code ls b before [] [])

  -- .. where this is known of variables
  abbrev Knowing : Trees → Type 0
  Knowing code =
      (labels : List (Option ValType)) (ls : List Aim) (b : ℕ) (before after : List ValType) (a : Around) → IsTyped (record c { labels = labels }) code before after
      → IsFormedCode c.types is_called code → AreAims c.returns labels ls b → LeavesResult ls after → a.labels ≡ labels_for ls → HasRoom s c (room_of c code b before)
      → (ks : List Known) → AllFine s a (30 + tree_levels code) (stmts_of bytes cells c code ls b before [] ks)

  -- .. and these words wait before it
  abbrev Waiting : Trees → Type 0
  Waiting code =
      (labels : List (Option ValType)) (ls : List Aim) (b : ℕ) (before after : List ValType) (a : Around) → IsTyped (record c { labels = labels }) code before after
      → IsFormedCode c.types is_called code → AreAims c.returns labels ls b → LeavesResult ls after → a.labels ≡ labels_for ls → HasRoom s c (room_of c code b before)
      → (ds : List Delayed) → AreSoundWaiting s ds → AreShallow 8 ds → (ks : List Known) → AllFine s a (30 + tree_levels code) (stmts_of bytes cells c code ls b before ds ks)

  only_knowing : (code : Trees) → Waiting code → Knowing code
  only_knowing code further labels ls b before after a typed formed aims ends around room ks = further labels ls b before after a typed formed aims ends around room [] tt tt ks

  none_waiting : (code : Trees) → Waiting code → Goal code
  none_waiting code further labels ls b before after a typed formed aims ends around room = further labels ls b before after a typed formed aims ends around room [] tt tt []

  -- what waits is written before the code
  opens_written : (code : Trees)
      → ((ls : List Aim) (b : ℕ) (ts : List ValType) (ds : List Delayed) (ks : List Known)
      → stmts_of bytes cells c code ls b ts ds ks ≡ simple_statements (written ds) ++ stmts_of bytes cells c code ls b ts [] ks) → Knowing code
      → Waiting code
  opens_written code is fine labels ls b before after a typed formed aims ends around room ds sound low ks =
      subst (AllFine s a (30 + tree_levels code)) (sym (is ls b before ds ks))
      (all_join s a (30 + tree_levels code) (simple_statements (written ds)) _
      (all_higher s a 30 (30 + tree_levels code) _ (omega arith) (written_all s ds sound low a)) (fine labels ls b before after a typed formed aims ends around room ks))

  -- and nothing is known there
  behind_written : (code : Trees)
      → ((ls : List Aim) (b : ℕ) (ts : List ValType) (ds : List Delayed) (ks : List Known)
      → stmts_of bytes cells c code ls b ts ds ks ≡ simple_statements (written ds) ++ stmts_of bytes cells c code ls b ts [] []) → Goal code
      → Waiting code
  behind_written code is fine =
      opens_written code (λ ls b ts ds ks. is ls b ts ds ks ∙ ap (λ ss. simple_statements (written ds) ++ ss) (sym (is ls b ts [] ks)))
      (λ labels ls b before after a typed formed aims ends around room ks.
      subst (AllFine s a (30 + tree_levels code)) (sym (is ls b before [] ks)) (fine labels ls b before after a typed formed aims ends around room))

  short : (h k n : ℕ) → h ≤ 30 → h ≤ 30 + n
  short h k n le = omega (arith, le)

  late_low : {m n : ℕ} → m ≤ n → n ≤ 8 → m ≤ 8
  late_low o p = omega (arith, o, p)

  plain_code : (p : Plain) (code : Trees) → Waiting code → Waiting (plain p ▹ code)
  plain_code p code further labels ls b before after a typed formed aims ends around room ds waiting shallow ks =
      let ts = typed.takes ++ typed.below in
      let is : plain_shape c p ≡ Ok typed.form = sym (same_shape c labels p) ∙ typed.has_form in
      let next = plain_after c p typed.form typed.takes typed.gives typed.below is typed.acts in
      let room2 = subst (λ ts. HasRoom s c (room_of c (plain p ▹ code) b ts)) typed.operands room in
      let first = left_room s c (here b ts (local_named p)) (room_of c code b (after_plain c p ts)) room2 in
      let rest = subst (λ ts. HasRoom s c (room_of c code b ts)) next (right_room s c (here b ts (local_named p)) (room_of c code b (after_plain c p ts)) room2) in
      let sound = plain_is_sound s c is_called bytes cells given ds p formed.0.0 formed.0.1 typed.form typed.takes typed.gives typed.below is typed.acts b first (room_here s c code b (typed.gives ++ typed.below) rest) in
      let x = late_code bytes cells c p b ts ds in
      let y = lean_code bytes cells c p b ts ds ks in
      let late = late_sound s ds (actions_amid bytes c ds p b ts) sound waiting in
      let low = late_shallow 8 ds (actions_amid bytes c ds p b ts) shallow (plain_is_shallow c bytes ds p b ts) in
      let deep = lean_shallow ks x.now in
      subst (λ ts. AllFine s a (30 + tree_levels code) (stmts_of bytes cells c (plain p ▹ code) ls b ts ds ks)) (sym typed.operands)
      (all_join s a (30 + tree_levels code) (statements y.now) _
      (all_higher s a 30 (30 + tree_levels code) _ (omega arith) (actions_all s a y.now (lean_sound s ks x.now late.0) (late_low deep low.1)))
      (subst (λ ts. AllFine s a (30 + tree_levels code) (stmts_of bytes cells c code ls b ts (standing b ts x.later) y.known)) (sym next)
      (further labels ls b (typed.gives ++ typed.below) after a typed.goes_on formed.1 aims ends around rest _ (standing_sound s b _ x.later late.1) (standing_shallow 8 b _ x.later low.0) y.known)))

  unreachable_code : (code : Trees) → Goal (unreachable ▹ code)
  unreachable_code code labels ls b before after a typed formed aims ends around room = (is_higher s a _ 5 (30 + tree_levels code) (omega arith) (action_fine s a (simply (stop 1)) (given.fixed.traps, omega arith)), tt)

  branch_code : (k : ℕ) (code : Trees) → Goal (br k ▹ code)
  branch_code k code labels ls b before after a typed formed aims ends around room =
      let f = branching (slice_get labels k) typed.form typed.takes typed.gives typed.below before typed.has_form typed.acts typed.operands in
      subst (λ ts. AllFine s a (30 + tree_levels code) (jump ls k b ts)) (sym f.operands)
      (all_higher s a 8 (30 + tree_levels code) _ (omega arith)
      (jumps_are_fine s a c labels ls k b f.carried f.below [] given.fixed answers aims f.is around (subst (λ ts. HasRoom s c (here b ts [])) f.operands room)))

  return_code : (code : Trees) → Waiting (return ▹ code)
  return_code code labels ls b before after a typed formed aims ends around room ds sound shallow ks =
      let f = leaving (listed c.returns) typed.form typed.takes typed.gives typed.below before typed.has_form typed.acts typed.operands in
      let at = subst (λ ts. HasRoom s c (here b ts [])) f.1 room in
      subst (λ ts. AllFine s a (30 + tree_levels code) (leave_late c.returns (under 1 b ts) ds)) (sym f.1)
      (all_higher s a 30 (30 + tree_levels code) _ (omega arith)
      (leave_late_fine s a c b f.0 ds sound shallow c.returns answers at (returns_are_fine s a c b f.0 [] given.fixed answers at)))

  -- ---- blocks

  new_label : (labels : List (Option ValType)) (ls : List Aim) (b : ℕ) (a : Around) → AreAims c.returns labels ls b → a.labels ≡ labels_for ls → has_label a.labels (label_name (labels_round ls)) ≡ false
  new_label labels ls b a aims around = subst (λ l. has_label l (label_name (labels_round ls)) ≡ false) (sym around) (labels_are_new c.returns labels ls b aims)

  block_high : (m n : ℕ) → 1 + (30 + m) ≤ 30 + max (1 + m) n
  block_high m n = omega arith

  rest_high : (m n : ℕ) → 30 + n ≤ 30 + max m n
  rest_high m n = omega arith

  base_above : (b : ℕ) (ts : List ValType) → b ≤ under 0 b ts
  base_above b ts = omega arith

  block_code : (r : Option ValType) (body code : Trees) → Knowing body → Goal code → Knowing (block r body ▹ code)
  block_code r body code inner further labels ls b before after a typed formed aims ends around room ks =
      let base = under 0 b before in
      let a1 = with_label false (labels_round ls) a in
      let rooms = right_room s c (here b before []) (with_room (room_of c body base []) (room_of c code b (listed r ++ before))) room in
      let body_fine = inner (r ∷ labels) (past base r ∷ ls) base [] (listed r) a1 typed.0 formed.0 (labels, refl, omega arith, aims_above c.returns labels ls b base (base_above b before) aims) tt
      (ap (λ l. record { text = label_name (labels_round ls); of_loop = false } ∷ l) around) (left_room s c _ _ rooms) (into_block ks) in (
        is_higher s a _ _ _ (block_high (tree_levels body) (tree_levels code)) (blocks_are_fine s a (labels_round ls) (30 + tree_levels body) _ (new_label labels ls b a aims around) body_fine),
        all_higher s a _ _ _ (rest_high (1 + tree_levels body) (tree_levels code)) (further labels ls b (listed r ++ before) after a typed.1 formed.1 aims ends around (right_room s c (room_of c body base []) (room_of c code b (listed r ++ before)) rooms)),
      )

  -- a loop leaves itself at its end
  leaves_fine : (body : Trees) (h : ℕ) (a : Around) → 1 ≤ h → AllFine s (in_a_loop a) h (leaves body)
  leaves_fine body h a le = by (comes_to_end body)
    where
      by : (t : Bool) → AllFine s (in_a_loop a) h (if t then breaks None ∷ [] else [])
      by true = (record { is_typed = refl; printed = tt; low = le; marks = λ at. tt }, tt)
      by false = tt

  loop_code : (r : Option ValType) (body code : Trees) → Goal body → Goal code → Goal (loop r body ▹ code)
  loop_code r body code inner further labels ls b before after a typed formed aims ends around room =
      let base = under 0 b before in
      let a1 = in_a_loop (with_label true (labels_round ls) a) in
      let rooms = right_room s c (here b before []) (with_room (room_of c body base []) (room_of c code b (listed r ++ before))) room in
      let body_fine = inner (None ∷ labels) (again base ∷ ls) base [] (listed r) a1 typed.0 formed.0 (labels, refl, omega arith, aims_above c.returns labels ls b base (base_above b before) aims) tt
      (ap (λ l. record { text = label_name (labels_round ls); of_loop = true } ∷ l) around) (left_room s c _ _ rooms) in
      let whole = all_join s a1 (30 + tree_levels body) _ (leaves body) body_fine (leaves_fine body (30 + tree_levels body) (with_label true (labels_round ls) a) (omega arith)) in (
        is_higher s a _ _ _ (block_high (tree_levels body) (tree_levels code)) (loops_are_fine s a (labels_round ls) (30 + tree_levels body) _ (new_label labels ls b a aims around) (omega arith) whole),
        all_higher s a _ _ _ (rest_high (1 + tree_levels body) (tree_levels code)) (further labels ls b (listed r ++ before) after a typed.1 formed.1 aims ends around (right_room s c (room_of c body base []) (room_of c code b (listed r ++ before)) rooms)),
      )

  if_high : (m n k : ℕ) → 1 + (30 + max m n) ≤ 30 + max (1 + max m n) k
  if_high m n k = omega arith

  first_high : (m n : ℕ) → 30 + m ≤ 30 + max m n
  first_high m n = omega arith

  if_code : (r : Option ValType) (first second code : Trees) → Knowing first → Goal second → Goal code → Waiting (if_block r first second ▹ code)
  if_code r first second code one two further labels ls b before after a typed formed aims ends around room ds sound shallow ks =
      let below = typed.0 in
      let base = b + length below in
      let a1 = with_label false (labels_round ls) a in
      let room2 = subst (λ ts. HasRoom s c (room_of c (if_block r first second ▹ code) b ts)) typed.1 room in
      let at = left_room s c (here b (I32 ∷ below) []) (with_room (with_room (room_of c first base []) (room_of c second base [])) (room_of c code b (listed r ++ below))) room2 in
      let rooms = right_room s c (here b (I32 ∷ below) []) (with_room (with_room (room_of c first base []) (room_of c second base [])) (room_of c code b (listed r ++ below))) room2 in
      let arms = left_room s c (with_room (room_of c first base []) (room_of c second base [])) (room_of c code b (listed r ++ below)) rooms in
      let aims1 = aims_above c.returns labels ls b base (omega arith) aims in
      let around1 = ap (λ l. record { text = label_name (labels_round ls); of_loop = false } ∷ l) around in
      let f = one (r ∷ labels) (past base r ∷ ls) base [] (listed r) a1 typed.2 formed.0 (labels, refl, omega arith, aims1) tt around1 (left_room s c (room_of c first base []) (room_of c second base []) arms) (into_block ks) in
      let g = two (r ∷ labels) (past base r ∷ ls) base [] (listed r) a1 typed.3 formed.1 (labels, refl, omega arith, aims1) tt around1 (right_room s c (room_of c first base []) (room_of c second base []) arms) in
      let h = 30 + max (tree_levels first) (tree_levels second) in
      let test = asked_fine s ds sound shallow base (at.operands base (omega arith)) in
      subst (λ ts. AllFine s a (30 + tree_levels (if_block r first second ▹ code)) (stmts_of bytes cells c (if_block r first second ▹ code) ls b ts ds ks)) (sym typed.1)
      (all_join s a (30 + tree_levels (if_block r first second ▹ code)) (written_but (low base) ds) _
      (all_higher s a 30 (30 + tree_levels (if_block r first second ▹ code)) _ (omega arith) (written_but_all s a (low base) ds sound shallow)) (
        is_higher s a _ _ _ (if_high (tree_levels first) (tree_levels second) (tree_levels code))
            (arms_are_fine s a (labels_round ls) h (asked base ds) (stmts_of bytes cells c first (past base r ∷ ls) base [] [] (into_block ks)) (stmts_of bytes cells c second (past base r ∷ ls) base [] [] [])
            (new_label labels ls b a aims around) (higher s h (omega arith) test) (omega arith)
            (all_higher s a1 _ h _ (first_high (tree_levels first) (tree_levels second)) f) (all_higher s a1 _ h _ (rest_high (tree_levels first) (tree_levels second)) g)),
        all_higher s a _ _ _ (rest_high (1 + max (tree_levels first) (tree_levels second)) (tree_levels code))
            (further labels ls b (listed r ++ below) after a typed.4 formed.2 aims ends around (right_room s c (with_room (room_of c first base []) (room_of c second base [])) (room_of c code b (listed r ++ below)) rooms)),
      ))

  -- ---- branches

  below_room : (b : ℕ) (ts : List ValType) → HasRoom s c (here b (I32 ∷ ts) []) → HasRoom s c (here b ts [])
  below_room b ts h = record { operands = λ d lt. h.operands d (omega (arith, lt)); high_words = h.high_words; locals = h.locals }

  if_branch : (k : ℕ) (code : Trees) (labels : List (Option ValType)) (ls : List Aim) (b : ℕ) (after : List ValType) (a : Around) (o : Option (Option ValType)) (form : Shape) (takes gives below : List ValType)
      → Goal code → slice_get labels k ≡ o → found NoLabel o (λ label. Fixed (I32 ∷ listed label) (listed label)) ≡ Ok form → Acts form takes gives
      → IsFormedCode c.types is_called code → AreAims c.returns labels ls b → LeavesResult ls after → a.labels ≡ labels_for ls
      → IsTyped (record c { labels = labels }) code (gives ++ below) after → HasRoom s c (room_of c (br_if k ▹ code) b (takes ++ below))
      → (ds : List Delayed) → AreSoundWaiting s ds → AreShallow 8 ds → (ks : List Known)
      → AllFine s a (30 + tree_levels code) (stmts_of bytes cells c (br_if k ▹ code) ls b (takes ++ below) ds ks)
  if_branch k code labels ls b after a None form takes gives below further e is acts formed aims ends around typed room ds sound shallow ks = absurd (cc is)
  if_branch k code labels ls b after a (Some r) form takes gives below further e is acts formed aims ends around typed room ds sound shallow ks =
      of_fixed
      (λ takes gives. IsTyped (record c { labels = labels }) code (gives ++ below) after → HasRoom s c (room_of c (br_if k ▹ code) b (takes ++ below))
      → AllFine s a (30 + tree_levels code) (stmts_of bytes cells c (br_if k ▹ code) ls b (takes ++ below) ds ks))
      (I32 ∷ listed r) (listed r) takes gives form is acts
      (λ typed room.
      let d = b + length (listed r ++ below) in
      let at = left_room s c (here b (I32 ∷ (listed r ++ below)) []) (room_of c code b (listed r ++ below)) room in
      let rest = right_room s c (here b (I32 ∷ (listed r ++ below)) []) (room_of c code b (listed r ++ below)) room in
      let test = asked_fine s ds sound shallow d (at.operands d (omega arith)) in
      let goes = jumps_are_fine s a c labels ls k b r below [] given.fixed answers aims e around (room_here s c code b (listed r ++ below) rest) in
      all_join s a (30 + tree_levels code) (written_but (low d) ds) _
      (all_higher s a 30 (30 + tree_levels code) _ (omega arith) (written_but_all s a (low d) ds sound shallow)) (
        is_higher s a _ 30 (30 + tree_levels code) (omega arith)
            (tests_are_fine s a 29 (asked d ds) (jump ls k b (listed r ++ below)) (higher s 29 (omega arith) test) (omega arith) (all_higher s a 8 29 _ (omega arith) goes)),
        further labels ls b (listed r ++ below) after a typed formed aims ends around rest,
      ))
      typed room

  br_if_code : (k : ℕ) (code : Trees) → Goal code → Waiting (br_if k ▹ code)
  br_if_code k code further labels ls b before after a typed formed aims ends around room ds sound shallow ks =
      subst (λ ts. AllFine s a (30 + tree_levels code) (stmts_of bytes cells c (br_if k ▹ code) ls b ts ds ks)) (sym typed.operands)
      (if_branch k code labels ls b after a (slice_get labels k) typed.form typed.takes typed.gives typed.below further refl typed.has_form typed.acts formed aims ends around typed.goes_on
      (subst (λ ts. HasRoom s c (room_of c (br_if k ▹ code) b ts)) typed.operands room) ds sound shallow ks)

  same_is : (u r : Option ValType) → same_result u r ≡ true → u ≡ r
  same_is None None h = refl
  same_is None (Some t) h = absurd (cc h)
  same_is (Some t) None h = absurd (cc h)
  same_is (Some I32) (Some I32) h = refl
  same_is (Some I32) (Some I64) h = absurd (cc h)
  same_is (Some I64) (Some I32) h = absurd (cc h)
  same_is (Some I64) (Some I64) h = refl

  carries_is : (o : Option (Option ValType)) (r : Option ValType) → carries o (Some r) ≡ true → o ≡ Some r
  carries_is None r h = absurd (cc h)
  carries_is (Some u) r h = ap Some (same_is u r h)

  each_jump : (labels : List (Option ValType)) (ls : List Aim) (b : ℕ) (r : Option ValType) (below : List ValType) (a : Around) (ks : List ℕ) (d : ℕ) → slice_get labels d ≡ Some r → alike labels ks d ≡ true
      → AreAims c.returns labels ls b → a.labels ≡ labels_for ls → HasRoom s c (here b (listed r ++ below) []) → EachFine s (in_a_switch a) (λ k. jump ls k b (listed r ++ below)) ks
  each_jump labels ls b r below a [] d e h aims around room = tt
  each_jump labels ls b r below a (k ∷ ks) d e h aims around room =
      let p = and_parts (carries (slice_get labels k) (slice_get labels d)) (alike labels ks d) h in
      let is = carries_is (slice_get labels k) r (ap (carries (slice_get labels k)) (sym e) ∙ p.0) in
      (jumps_are_fine s (in_a_switch a) c labels ls k b r below [] given.fixed answers aims is around room, each_jump labels ls b r below a ks d e p.1 aims around room)

  rule_kept : (t : Bool) (rule : Rule) → ◌≡◌ {A = Result (Unit {0}) Rule} (unless t rule tt) (Ok tt) → t ≡ true
  rule_kept true rule h = refl
  rule_kept false rule h = absurd (cc h)

  table_branch : (ks : List ℕ) (d : ℕ) (code : Trees) (labels : List (Option ValType)) (ls : List Aim) (b : ℕ) (before : List ValType) (a : Around) (all : Result (Unit {0}) Rule) (o : Option (Option ValType)) (form : Shape) (takes gives below : List ValType)
      → slice_get labels d ≡ o → onward all (λ _. found NoLabel o (λ label. Leaves (I32 ∷ listed label))) ≡ Ok form → Acts form takes gives → alike labels ks d ≡ true → before ≡ takes ++ below
      → AreAims c.returns labels ls b → a.labels ≡ labels_for ls → HasRoom s c (here b before []) → AllFine s a (30 + tree_levels code) (stmts_of bytes cells c (br_table ks d ▹ code) ls b before [] [])
  table_branch ks d code labels ls b before a (Err rule) o form takes gives below e is acts same operands aims around room = absurd (cc is)
  table_branch ks d code labels ls b before a (Ok x) None form takes gives below e is acts same operands aims around room = absurd (cc is)
  table_branch ks d code labels ls b before a (Ok x) (Some r) form takes gives below e is acts same operands aims around room =
      let f = leaving (I32 ∷ listed r) form takes gives below before is acts operands in
      let at = subst (λ ts. HasRoom s c (here b ts [])) f.1 room in
      let under_it = below_room b (listed r ++ f.0) at in
      subst (λ ts. AllFine s a (30 + tree_levels code) (stmts_of bytes cells c (br_table ks d ▹ code) ls b ts [] [])) (sym f.1)
      (all_higher s a 9 (30 + tree_levels code) _ (omega arith)
      (switches_are_fine s a (b + length (listed r ++ f.0)) (λ k. jump ls k b (listed r ++ f.0)) ks d (at.operands (b + length (listed r ++ f.0)) (omega arith))
      (each_jump labels ls b r f.0 a ks d e same aims around under_it) (jumps_are_fine s (in_a_switch a) c labels ls d b r f.0 [] given.fixed answers aims e around under_it)))

  br_table_code : (ks : List ℕ) (d : ℕ) (code : Trees) → Goal (br_table ks d ▹ code)
  br_table_code ks d code labels ls b before after a typed formed aims ends around room =
      table_branch ks d code labels ls b before a (all_labels labels ks) (slice_get labels d) typed.form typed.takes typed.gives typed.below refl typed.has_form typed.acts
      (rule_kept (alike labels ks d) _ typed.keeps_rules) typed.operands aims around room

  -- ---- calls

  call_leaves : (t : FunctionType) (below : List ValType) → types_after_call (Some t) (reverse t.params ++ below) ≡ listed (type_result t) ++ below
  call_leaves t below =
      ap (λ n. listed (type_result t) ++ drop n (reverse t.params ++ below)) (sym (length-reverse t.params)) ∙ ap (λ ts. listed (type_result t) ++ ts) (drop-append_seam (reverse t.params) below)

  called_code : (f : ℕ) (code : Trees) (labels : List (Option ValType)) (ls : List Aim) (b : ℕ) (after : List ValType) (a : Around) (o : Option FunctionType) (form : Shape) (takes gives below : List ValType)
      → Goal code → type_of c f ≡ o → found NoFunction o (call_shape []) ≡ Ok form → Acts form takes gives → IsFormedCode c.types is_called code → AreAims c.returns labels ls b → LeavesResult ls after → a.labels ≡ labels_for ls
      → IsTyped (record c { labels = labels }) code (gives ++ below) after → HasRoom s c (with_room (here b (takes ++ below) []) (room_of c code b (types_after_call o (takes ++ below))))
      → (ds : List Delayed) → AreSoundWaiting s ds → AreShallow 8 ds
      → AllFine s a (30 + tree_levels code) (call_stmts ds f b (takes ++ below) o ++ stmts_of bytes cells c code ls b (types_after_call o (takes ++ below)) [] [])
  called_code f code labels ls b after a None form takes gives below further e is acts formed aims ends around = absurd (cc is)
  called_code f code labels ls b after a (Some t) form takes gives below further e is acts formed aims ends around =
      of_fixed
      (λ takes gives. IsTyped (record c { labels = labels }) code (gives ++ below) after → HasRoom s c (with_room (here b (takes ++ below) []) (room_of c code b (types_after_call (Some t) (takes ++ below))))
      → (ds : List Delayed) → AreSoundWaiting s ds → AreShallow 8 ds
      → AllFine s a (30 + tree_levels code) (call_stmts ds f b (takes ++ below) (Some t) ++ stmts_of bytes cells c code ls b (types_after_call (Some t) (takes ++ below)) [] []))
      (reverse t.params) (listed (type_result t)) takes gives form is acts
      (λ typed room ds sound shallow.
      let next = call_leaves t below in
      let at = left_room s c (here b (reverse t.params ++ below) []) (room_of c code b (types_after_call (Some t) (reverse t.params ++ below))) room in
      let rest = subst (λ ts. HasRoom s c (room_of c code b ts)) next (right_room s c (here b (reverse t.params ++ below) []) (room_of c code b (types_after_call (Some t) (reverse t.params ++ below))) room) in
      all_join s a (30 + tree_levels code) (call_stmts ds f b (reverse t.params ++ below) (Some t)) _
      (all_higher s a 30 (30 + tree_levels code) _ (omega arith)
      (calls_are_fine s a c f b t below [] ds sound shallow given.fixed (given.functions f t e) at (room_here s c code b (listed (type_result t) ++ below) rest)))
      (subst (λ ts. AllFine s a (30 + tree_levels code) (stmts_of bytes cells c code ls b ts [] [])) (sym next) (further labels ls b (listed (type_result t) ++ below) after a typed formed aims ends around rest)))

  call_code : (f : ℕ) (code : Trees) → Goal code → Waiting (call f ▹ code)
  call_code f code further labels ls b before after a typed formed aims ends around room ds sound shallow ks =
      subst (λ ts. AllFine s a (30 + tree_levels code) (stmts_of bytes cells c (call f ▹ code) ls b ts ds ks)) (sym typed.operands)
      (called_code f code labels ls b after a (type_of c f) typed.form typed.takes typed.gives typed.below further refl typed.has_form typed.acts formed aims ends around typed.goes_on
      (subst (λ ts. HasRoom s c (room_of c (call f ▹ code) b ts)) typed.operands room) ds sound shallow)

  has_table : (t : Bool) (u : Shape) (form : Shape) → unless t NoTable u ≡ Ok form → ◌≡◌ {A = Result Shape Rule} (Ok u) (Ok form)
  has_table true u form h = h
  has_table false u form h = absurd (cc h)

  entry_code : (n : ℕ) (code : Trees) (labels : List (Option ValType)) (ls : List Aim) (b : ℕ) (after : List ValType) (a : Around) (o : Option FunctionType) (form : Shape) (takes gives below : List ValType)
      → Goal code → slice_get c.types n ≡ o → onward (found NoType o (call_shape (I32 ∷ []))) (unless c.table NoTable) ≡ Ok form → Acts form takes gives
      → ((t : FunctionType) → slice_get c.types n ≡ Some t → is_called.types t ≡ true) → IsFormedCode c.types is_called code → AreAims c.returns labels ls b → LeavesResult ls after → a.labels ≡ labels_for ls
      → IsTyped (record c { labels = labels }) code (gives ++ below) after → HasRoom s c (with_room (here b (takes ++ below) []) (room_of c code b (types_after_call o (drop 1 (takes ++ below)))))
      → AllFine s a (30 + tree_levels code) (indirect_stmts cells c.types b (takes ++ below) o ++ stmts_of bytes cells c code ls b (types_after_call o (drop 1 (takes ++ below))) [] [])
  entry_code n code labels ls b after a None form takes gives below further e is acts called formed aims ends around = absurd (cc is)
  entry_code n code labels ls b after a (Some t) form takes gives below further e is acts called formed aims ends around =
      of_fixed
      (λ takes gives. IsTyped (record c { labels = labels }) code (gives ++ below) after → HasRoom s c (with_room (here b (takes ++ below) []) (room_of c code b (types_after_call (Some t) (drop 1 (takes ++ below)))))
      → AllFine s a (30 + tree_levels code) (indirect_stmts cells c.types b (takes ++ below) (Some t) ++ stmts_of bytes cells c code ls b (types_after_call (Some t) (drop 1 (takes ++ below))) [] []))
      (I32 ∷ reverse t.params) (listed (type_result t)) takes gives form (has_table c.table _ form is) acts
      (λ typed room.
      let next = call_leaves t below in
      let at = left_room s c (here b (I32 ∷ (reverse t.params ++ below)) []) (room_of c code b (types_after_call (Some t) (reverse t.params ++ below))) room in
      let rest = subst (λ ts. HasRoom s c (room_of c code b ts)) next (right_room s c (here b (I32 ∷ (reverse t.params ++ below)) []) (room_of c code b (types_after_call (Some t) (reverse t.params ++ below))) room) in
      all_join s a (30 + tree_levels code) (indirect_stmts cells c.types b (I32 ∷ (reverse t.params ++ below)) (Some t)) _
      (all_higher s a 30 (30 + tree_levels code) (indirect_stmts cells c.types b (I32 ∷ (reverse t.params ++ below)) (Some t)) (omega arith)
      (entry_calls_are_fine s a c cells b c.types t below [] given.fixed given.some_cells given.few_cells (given.tables t (called t e)) at (room_here s c code b (listed (type_result t) ++ below) rest)))
      (subst (λ ts. AllFine s a (30 + tree_levels code) (stmts_of bytes cells c code ls b ts [] [])) (sym next) (further labels ls b (listed (type_result t) ++ below) after a typed formed aims ends around rest)))

  call_indirect_code : (n : ℕ) (code : Trees) → Goal code → Goal (call_indirect n ▹ code)
  call_indirect_code n code further labels ls b before after a typed formed aims ends around room =
      subst (λ ts. AllFine s a (30 + tree_levels code) (stmts_of bytes cells c (call_indirect n ▹ code) ls b ts [] [])) (sym typed.operands)
      (entry_code n code labels ls b after a (slice_get c.types n) typed.form typed.takes typed.gives typed.below further refl typed.has_form typed.acts formed.0 formed.1 aims ends around typed.goes_on
      (subst (λ ts. HasRoom s c (room_of c (call_indirect n ▹ code) b ts)) typed.operands room))

  -- ---- all code

  code_fine : (code : Trees) → Waiting code
  code_fine ε = λ labels ls b before after a typed formed aims ends around room ds sound low ks.
      ended_fine s a c labels ls b before ds answers aims (subst (LeavesResult ls) (sym typed) ends) room sound low
  code_fine (plain p ▹ code) = plain_code p code (code_fine code)
  code_fine (unreachable ▹ code) = behind_written (unreachable ▹ code) (λ ls b ts ds ks. refl) (unreachable_code code)
  code_fine (br k ▹ code) = behind_written (br k ▹ code) (λ ls b ts ds ks. refl) (branch_code k code)
  code_fine (return ▹ code) = return_code code
  code_fine (br_if k ▹ code) = br_if_code k code (none_waiting code (code_fine code))
  code_fine (br_table ks d ▹ code) = behind_written (br_table ks d ▹ code) (λ ls b ts ds ks. refl) (br_table_code ks d code)
  code_fine (block r body ▹ code) = opens_written (block r body ▹ code) (λ ls b ts ds ks. refl) (block_code r body code (only_knowing body (code_fine body)) (none_waiting code (code_fine code)))
  code_fine (loop r body ▹ code) = behind_written (loop r body ▹ code) (λ ls b ts ds ks. refl) (loop_code r body code (none_waiting body (code_fine body)) (none_waiting code (code_fine code)))
  code_fine (if_block r first second ▹ code) =
      if_code r first second code (only_knowing first (code_fine first)) (none_waiting second (code_fine second)) (none_waiting code (code_fine code))
  code_fine (call f ▹ code) = call_code f code (none_waiting code (code_fine code))
  code_fine (call_indirect n ▹ code) =
      behind_written (call_indirect n ▹ code) (λ ls b ts ds ks. append_assoc (simple_statements (written ds)) (indirect_stmts cells c.types b ts (slice_get c.types n)) _) (call_indirect_code n code (none_waiting code (code_fine code)))

pub code_is_fine : CodeIsFine
code_is_fine s c is_called bytes cells given gives code = none_waiting s c is_called bytes cells given gives code (code_fine s c is_called bytes cells given gives code)
