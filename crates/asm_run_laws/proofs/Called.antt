-- Arguments, and calls of functions, of foreign members and of entries of tables.
use Rattle.std.proofs.Common.{◌≡◌, ℕ, suc, ◌+◌, ◌^◌, ◌<◌, ◌≤◌, Bool, true, false, List, [], ◌∷◌, ◌++◌, length, map, Option, Some, None, refl, sym, ap, ◌∙◌, subst, arith}
use Rattle.std.specs.Prelude.{slice_get, bytes_eq, if◌then◌else◌}
use Rattle.std.specs.Option.{unwrap_or}
use Rattle.std.specs.List.{All, AllByRecursion}
use Rattle.std.proofs.lemmas.Slice.Eq.{bytes_eq-Decides}
use Rattle.std.proofs.lemmas.List.Elements.{All-from_recursion, recursion_from_All}
use Rattle.sem_words.specs.declared.word.Word.{Word}
use Rattle.sem_words.specs.declared.word.Word.TheVariants.{W32}
use Rattle.sem_words.specs.declared.js_value.JsValue.{JsValue}
use Rattle.sem_words.specs.JsValues.{to_uint32_of}
use Rattle.sem_words.specs.JsOperators.{signed_value}
use Rattle.sem_words.proofs.WordLaws.{word_of-signed_of_32}
use Rattle.heap_lang.specs.Heap.{with_run}
use Rattle.heap_lang.specs.Numbers.{IsBytes}
use Rattle.heap_lang.proofs.RunLemmas.{length-with_run, IsBytes-with_run}
use Rattle.session_lang.specs.Script.{WritePlain, ReplyPlain, give, throw}
use Rattle.session_lang.specs.Fits.{writes_of}
use Rattle.session_lang.specs.Observation.{stopped, trap_name}
use Rattle.session_lang.specs.Imports.{Replies, ImportAnswer, goes_on, ends, answer_import, take_reply, low_word, high_word, high_name}
use Rattle.asm_lang.specs.Modules.{Variable, Function}
use Rattle.asm_lang_valid.specs.Scope.{is_name}
use Rattle.asm_lang_exec.specs.Runs.{Place, Run, Part}
use Rattle.asm_lang_exec.specs.Values as exec
use Rattle.asm_lang_exec.specs.Values.{Calls, with_writes, answered, call_import}
use Rattle.asm_lang_exec.specs.Session.{heap_length}
use Rattle.asm2wasm_laws_run.specs.State.{Stays}
use Rattle.asm_run_code.specs.declared.op.Op.{Op}
use Rattle.asm_run_code.specs.declared.op.Op.TheVariants.{Call, CallImport}
use Rattle.asm_run_code.specs.Slots.{put}
use Rattle.asm_run_code.specs.Machine.{State, going, halts, words_from, answers, calls_import, step}
use Rattle.asm_run_code.specs.Names.{first_free, member_name, member_number}
use Rattle.asm_run_code.specs.Values.{Before, copied}
use Rattle.asm_run_laws.specs.Frames.{Setting, Frame, IsFrame, Ends, state, Standing, Kept, Goes, Does, Shown, Seated, Args, OwnDone}
use Rattle.asm_run_laws.proofs.Slots.{get_same}
use Rattle.asm_run_laws.proofs.Fetched.{fetched, leads_once}
use Rattle.asm_run_laws.proofs.Done.{does_onward}
use Rattle.asm_run_laws.proofs.Standing.{standing_put, kept_on, kept_put}
use Rattle.asm_run_laws.proofs.Fronts.{ends_on, ends_after}
use Rattle.asm_run_laws.proofs.Forms.{copied_goes}

-- ---- foreign members by number

named_is : (n : List ℕ) (o : Option (List ℕ)) → is_name n o ≡ true → o ≡ Some n
named_is n None h = absurd (cc h)
named_is n (Some p) h = ap Some ((bytes_eq-Decides p n).0 h)

-- a declaration imports a member of this name
abbrev pub imports : List Variable → List ℕ → Bool
imports [] n = false
imports (v ∷ vs) n = if is_name n (member_name v.init) then true else imports vs n

pub member_there : (vs : List Variable) (n : List ℕ) → imports vs n ≡ true → slice_get (map (λ (v : Variable). unwrap_or (member_name v.init) []) vs) (member_number vs n) ≡ Some n
member_there [] n h = absurd (cc h)
member_there (v ∷ vs) n h = by (is_name n (member_name v.init)) refl (member_there vs n) h
  where
    by : (b : Bool) → is_name n (member_name v.init) ≡ b → (imports vs n ≡ true → slice_get (map (λ (v : Variable). unwrap_or (member_name v.init) []) vs) (member_number vs n) ≡ Some n)
        → (if b then true else imports vs n) ≡ true
        → slice_get (map (λ (v : Variable). unwrap_or (member_name v.init) []) (v ∷ vs)) (if b then 0 else suc (member_number vs n)) ≡ Some n
    by true e rest h = ap (λ o. Some (unwrap_or o [])) (named_is n (member_name v.init) e)
    by false e rest h = rest h

-- ---- answers

abbrev Replied : ℕ → ReplyPlain → Type 0
Replied n r = All (Stays n) (writes_of r)

-- a reply's writes stay in the heap, and so do those that are left
abbrev Answering : ℕ → ImportAnswer → Type 0
Answering n (ends e) = Unit {0}
Answering n (goes_on g) = AllByRecursion (Stays n) g.writes × All (Replied n) g.replies.left

taken : (n : ℕ) (name : List ℕ) (args : List Word) (left : List ReplyPlain) → AllByRecursion (Replied n) left → Answering n (take_reply name args left)
taken n name args [] all = tt
taken n name args (throw ∷ left) all = tt
taken n name args (give w ws ∷ left) all = (recursion_from_All (Stays n) ws all.0, All-from_recursion (Replied n) left all.1)

answering : (n : ℕ) (name : List ℕ) (args : List Word) (replies : Replies) → All (Replied n) replies.left → Answering n (answer_import name args replies)
answering n name args replies all = by (bytes_eq name trap_name) (bytes_eq name high_name)
  where
    by : (a b : Bool) → Answering n (if a then ends (stopped name args) else if b then goes_on (record { word = high_word replies.last; writes = []; events = []; replies = replies }) else take_reply name args replies.left)
    by true b = tt
    by false true = (tt, all)
    by false false = taken n name args replies.left (recursion_from_All (Replied n) replies.left all)

heap_stays : (n : ℕ) (ws : List WritePlain) (heap : List ℕ) → AllByRecursion (Stays n) ws → length (with_writes ws heap) ≡ length heap
heap_stays n [] heap all = refl
heap_stays n (w ∷ ws) heap all = heap_stays n ws (with_run w.at w.bytes heap) all.1 ∙ length-with_run w.at w.bytes heap

bytes_stay : (n : ℕ) (ws : List WritePlain) (heap : List ℕ) → AllByRecursion (Stays n) ws → IsBytes heap → IsBytes (with_writes ws heap)
bytes_stay n [] heap all h = h
bytes_stay n (w ∷ ws) heap all h = bytes_stay n ws (with_run w.at w.bytes heap) all.1 (IsBytes-with_run w.at w.bytes heap all.0.bytes h)

given_word : (w : ℕ) → to_uint32_of (signed_value (low_word w)) ≡ low_word w
given_word w = let below : low_word w < 2 ^ 32 = omega arith in word_of-signed_of_32 (low_word w) below

-- ---- arguments in their slots

words_passed : (x : Frame) (ws : List ℕ) (d : ℕ) (vs : List JsValue) → Args x ws d vs → words_from ws (x.base + d) (length vs) ≡ map exec.word vs
words_passed x ws d [] h = refl
words_passed x ws d (v ∷ vs) h =
    let e : suc (x.base + d) ≡ x.base + suc d = omega arith in
    ap (λ w. W32 w ∷ words_from ws (suc (x.base + d)) (length vs)) h.0 ∙ ap (λ a. exec.word v ∷ words_from ws a (length vs)) e ∙ ap (λ l. exec.word v ∷ l) (words_passed x ws (suc d) vs h.1)

module _ (s : Setting) (x : Frame) where
  -- the arguments stand in slots from d on
  pub record Passed (d count : ℕ) (at : ℕ) (old : List ℕ) (vs : List JsValue) (q : Place) (here : ℕ) (new : List ℕ) : Type 0 where
    pub standing : Standing s x new q
    pub kept : Kept x d old new
    pub there : here ≡ at
    pub args : Args x new d vs
    pub many : length vs ≡ count

  pub record PassedDone (limit d count : ℕ) (code : Before) (part : Part (List JsValue)) : Type 0 where
    pub by : (rest : List Op) (ws : List ℕ) (p : Place) → Ends x.whole (code rest) → Standing s x ws p → p.units ≤ limit
        → Does s x (Passed d count (length rest) ws) p.units (state x (length (code rest)) ws p) (part p)

  module _ (f : IsFrame s x) (limit : ℕ) (own : Calls) (d : ℕ) (room : first_free x.within ≤ d) where
    -- a value in slot d, where it is wanted
    pub moved : (wanted : Option ℕ) (rest : List Op) (old ws : List ℕ) (n : ℕ) (t : State) (o : Run JsValue) → Kept x d old ws → Ends x.whole (copied wanted d rest)
        → Does s x (Seated s x d d (length (copied wanted d rest)) ws) n t o → Does s x (Shown s x d wanted (length rest) old) n t o
    moved wanted rest old ws n t o kept left k =
        does_onward s x (Seated s x d d (length (copied wanted d rest)) ws) (Shown s x d wanted (length rest) old) n t o k
        (λ v q here new run sh. subst (λ here. Goes s x (Shown s x d wanted (length rest) old) q.units (state x here new q) v q) (sym sh.there)
        (copied_goes s x f limit own d room wanted d rest old new q v left sh.standing (kept_on s x d old ws new kept sh.kept) sh.value))

    pub own_called : OwnDone s limit own → (wanted : Option ℕ) (g : Function) (n : ℕ) (rest : List Op) (old ws : List ℕ) (p : Place) (vs : List JsValue) → slice_get s.home.functions n ≡ Some g → length vs ≡ length g.params
        → Ends x.whole (Call n d ∷ copied wanted d rest) → Standing s x ws p → Kept x d old ws → Args x ws d vs → p.units ≤ limit
        → Does s x (Shown s x d wanted (length rest) old) p.units (state x (length (Call n d ∷ copied wanted d rest)) ws p) (own g vs p)
    own_called owned wanted g n rest old ws p vs stands many left st kept args few =
        let more = copied wanted d rest in
        moved wanted rest old ws p.units (state x (length (Call n d ∷ more)) ws p) (own g vs p) kept (ends_on x.whole (Call n d ∷ more) more left (ends_after (Call n d) more))
        (owned x g n d (length more) vs (state x (length (Call n d ∷ more)) ws p) ws p stands room many st args few (fetched s x f (Call n d) more ws p left))

    -- a foreign member
    answered_done : (name : List ℕ) (at : ℕ) (ws : List ℕ) (p : Place) (t : State) (a : ImportAnswer) → Answering (heap_length s.home s.heap) a → Standing s x ws p → step s.codes t ≡ answers a d (state x at ws p)
        → Does s x (Seated s x d d at ws) p.units t (answered a p)
    answered_done name at ws p t (ends e) fit st steps = record { last = state x at ws p; leads = leads_once s.codes t (halts e (state x at ws p)) steps; events = refl; heap = refl }
    answered_done name at ws p t (goes_on g) fit st steps =
        let n = heap_length s.home s.heap in
        let r = record p { heap = with_writes g.writes p.heap; replies = g.replies; events = p.events ++ g.events } in
        let new = put ws (x.base + d) (low_word g.word) in
        let stands : Standing s x ws r = record {
          holds = record { locals = st.holds.locals; globals = st.holds.globals; heap = heap_stays n g.writes p.heap fit.0 ∙ st.holds.heap; bytes = bytes_stay n g.writes p.heap fit.0 st.holds.bytes; replies = fit.1 };
          locals = st.locals;
        } in record {
          at = at;
          words = new;
          leads = leads_once s.codes t (going (state x at new r)) steps;
          shown = record {
            standing = standing_put s x ws r d (low_word g.word) room stands;
            kept = kept_put s x d ws d (low_word g.word) (omega arith);
            there = refl;
            value = get_same ws (x.base + d) (low_word g.word) ∙ sym (given_word g.word);
          };
          few = omega arith;
        }

    pub foreign_called : (wanted : Option ℕ) (name : List ℕ) (k count : ℕ) (rest : List Op) (old ws : List ℕ) (p : Place) (vs : List JsValue) → slice_get s.codes.members k ≡ Some name → length vs ≡ count
        → Ends x.whole (CallImport k count d ∷ copied wanted d rest) → Standing s x ws p → Kept x d old ws → Args x ws d vs
        → Does s x (Shown s x d wanted (length rest) old) p.units (state x (length (CallImport k count d ∷ copied wanted d rest)) ws p) (call_import name vs p)
    foreign_called wanted name k count rest old ws p vs there many left st kept args =
        let more = copied wanted d rest in
        let op = CallImport k count d in
        moved wanted rest old ws p.units (state x (length (op ∷ more)) ws p) (call_import name vs p) kept (ends_on x.whole (op ∷ more) more left (ends_after op more))
        (answered_done name (length more) ws p (state x (length (op ∷ more)) ws p) (answer_import name (map exec.word vs) p.replies) (answering (heap_length s.home s.heap) name (map exec.word vs) p.replies st.holds.replies) st
        (fetched s x f op more ws p left
        ∙ ap (λ o. calls_import o count d (state x (length more) ws p)) there
        ∙ ap (λ args. answers (answer_import name args p.replies) d (state x (length more) ws p)) (ap (words_from ws (x.base + d)) (sym many) ∙ words_passed x ws d vs args)))
