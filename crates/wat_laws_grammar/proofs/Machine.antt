-- Reading token by token gives the marks of what is derived, and no others; and it stops at the first fault.
use Rattle.std.proofs.Common.{◌≡◌, Bool, true, false, ◌&&◌, List, [], ◌∷◌, ◌++◌, Option, Some, None, option_map, refl, sym, ap, ◌∙◌, subst}
use Rattle.std.proofs.lemmas.Bool.{and_parts}
use Rattle.wat_lang.specs.declared.parts.Rule.{Rule}
use Rattle.wat_lang.specs.Tokens.{Class, Token}
use Rattle.wat_lang.specs.Grammar.{Mark, Item, token, rule, Row, rows, may_end, meets, Marked, marked, IsOneOf, first, later, BeginsNone, Derives, all_done, one_token, goes_on, ends}
use Rattle.wat_laws_grammar.specs.Machine.{pick, pick_by, Taken, taken, if_true, by_row, feed, may_stop, run_on, run}
use Rattle.wat_laws_grammar.proofs.Apart.{row_is_picked}

-- ---- the first row that begins

pub none_begins : (c : Class) {w : Row} {ws : List Row} → IsOneOf w ws → pick ws c ≡ None → meets w.want c ≡ false
none_begins c (first {w = w} {ws = ws}) e = by (meets w.want c) refl e
  where
    by : (t : Bool) → meets w.want c ≡ t → pick_by w (pick ws c) t ≡ None → meets w.want c ≡ false
    by true et e = absurd cc
    by false et e = et
none_begins c (later {w = w} {v = v} {ws = ws} i) e = by (λ f. none_begins c i f) (meets v.want c) e
  where
    by : (pick ws c ≡ None → meets w.want c ≡ false) → (t : Bool) → pick_by v (pick ws c) t ≡ None → meets w.want c ≡ false
    by below true e = absurd cc
    by below false e = below e

pub pick_begins : (ws : List Row) (c : Class) (w : Row) → pick ws c ≡ Some w → IsOneOf w ws × (meets w.want c ≡ true)
pick_begins [] c w e = absurd cc
pick_begins (v ∷ ws) c w e = by (λ f. pick_begins ws c w f) (meets v.want c) refl e
  where
    by : (pick ws c ≡ Some w → IsOneOf w ws × (meets w.want c ≡ true)) → (t : Bool) → meets v.want c ≡ t → pick_by v (pick ws c) t ≡ Some w
        → IsOneOf w (v ∷ ws) × (meets w.want c ≡ true)
    by below true et e =
        let is : v ≡ w = cc in
        subst (λ (x : Row). IsOneOf x (v ∷ ws) × (meets x.want c ≡ true)) is (first, et)
    by below false et e = let r = below e in (later r.0, r.1)

none_picked : (c : Class) (ws : List Row) → ((w : Row) → IsOneOf w ws → meets w.want c ≡ false) → pick ws c ≡ None
none_picked c [] h = refl
none_picked c (w ∷ ws) h = ap (pick_by w (pick ws c)) (h w first) ∙ none_picked c ws (λ x i. h x (later i))

-- ---- what is derived is run

taken_is : (r : Rule) (is : List Item) (c : Class) (w : Row) → IsOneOf w (rows r) → meets w.want c ≡ true → feed (rule r ∷ is) c ≡ Some (taken w.mark (w.next ++ is))
taken_is r is c w i e = ap (by_row is (if_true (feed is c) (may_end r))) (row_is_picked r w c i e)

left_is : (r : Rule) (is : List Item) (c : Class) → may_end r ≡ true → pick (rows r) c ≡ None → feed (rule r ∷ is) c ≡ feed is c
left_is r is c m e = ap (by_row is (if_true (feed is c) (may_end r))) e ∙ ap (if_true (feed is c)) m

run_taken : (t : Token) (m : Mark) (is js : List Item) (ts : List Token) (ms : List Marked) → feed is t.class ≡ Some (taken m js) → run js ts ≡ Some ms → run is (t ∷ ts) ≡ Some (marked m t ∷ ms)
run_taken t m is js ts ms f e = ap (λ (x : Option Taken). run_on t x (λ ks. run ks ts)) f ∙ ap (option_map (λ ns. marked m t ∷ ns)) e

run_left : (r : Rule) (is : List Item) (ts : List Token) (ms : List Marked) → may_end r ≡ true → BeginsNone (rows r) ts → run is ts ≡ Some ms → run (rule r ∷ is) ts ≡ Some ms
run_left r is [] ms m b e = ap (λ t. if_true (Some []) (t && may_stop is)) m ∙ e
run_left r is (t ∷ ts) ms m b e = ap (λ (x : Option Taken). run_on t x (λ ks. run ks ts)) (left_is r is t.class m (none_picked t.class (rows r) b)) ∙ e

pub complete : {is : List Item} {ms : List Marked} {ts : List Token} → Derives is ms ts → run is ts ≡ Some ms
complete all_done = refl
complete (one_token {w = w} {m = m} {is = is} {ms = ms} {t = t} {ts = ts} e d) =
    run_taken t m (token w m ∷ is) is ts ms (ap (if_true (Some (taken m is))) e) (complete d)
complete (goes_on {r = r} {w = w} {is = is} {ms = ms} {t = t} {ts = ts} i e d) =
    run_taken t w.mark (rule r ∷ is) (w.next ++ is) ts ms (taken_is r is t.class w i e) (complete d)
complete (ends {r = r} {is = is} {ms = ms} {ts = ts} m b d) = run_left r is ts ms m b (complete d)

pub one_marking : {is : List Item} {ms ns : List Marked} {ts : List Token} → Derives is ms ts → Derives is ns ts → ms ≡ ns
one_marking {is = is} {ms = ms} {ns = ns} {ts = ts} d e =
    let f : (let x : Option (List Marked) = Some ms in x) ≡ Some ns = sym (complete d) ∙ complete e in cc

-- ---- what is run is derived

stopped : (is : List Item) → may_stop is ≡ true → Derives is [] []
stopped [] e = all_done
stopped (token w m ∷ is) e = absurd cc
stopped (rule r ∷ is) e = let parts = and_parts (may_end r) (may_stop is) e in ends parts.0 tt (stopped is parts.1)

-- what the token leads to is derived before it
pub fed_derives : (is : List Item) (t : Token) (f : Taken) (ms : List Marked) (ts : List Token) → feed is t.class ≡ Some f → Derives f.left ms ts → Derives is (marked f.mark t ∷ ms) (t ∷ ts)
fed_derives [] t f ms ts e d = absurd cc
fed_derives (token w m ∷ is) t f ms ts e d = by (meets w t.class) refl e
  where
    by : (b : Bool) → meets w t.class ≡ b → if_true (Some (taken m is)) b ≡ Some f → Derives (token w m ∷ is) (marked f.mark t ∷ ms) (t ∷ ts)
    by true eb e =
        let same : f ≡ taken m is = cc in
        let on : Derives is ms ts = subst (λ (x : Taken). Derives x.left ms ts) same d in
        subst (λ (x : Mark). Derives (token w m ∷ is) (marked x t ∷ ms) (t ∷ ts)) (sym (ap (λ (x : Taken). x.mark) same)) (one_token eb on)
    by false eb e = absurd cc
fed_derives (rule r ∷ is) t f ms ts e d = by (λ g. fed_derives is t f ms ts g d) (pick (rows r) t.class) (may_end r) refl refl e
  where
    by : (feed is t.class ≡ Some f → Derives is (marked f.mark t ∷ ms) (t ∷ ts)) → (x : Option Row) (b : Bool) → pick (rows r) t.class ≡ x → may_end r ≡ b
        → by_row is (if_true (feed is t.class) b) x ≡ Some f → Derives (rule r ∷ is) (marked f.mark t ∷ ms) (t ∷ ts)
    by below (Some w) b ep eb e =
        let at = pick_begins (rows r) t.class w ep in
        let same : f ≡ taken w.mark (w.next ++ is) = cc in
        let on : Derives (w.next ++ is) ms ts = subst (λ (x : Taken). Derives x.left ms ts) same d in
        subst (λ (x : Mark). Derives (rule r ∷ is) (marked x t ∷ ms) (t ∷ ts)) (sym (ap (λ (x : Taken). x.mark) same)) (goes_on {w = w} at.0 at.1 on)
    by below None true ep eb e = ends eb (λ w i. none_begins t.class i ep) (below e)
    by below None false ep eb e = absurd cc

pub sound : (is : List Item) (ts : List Token) (ms : List Marked) → run is ts ≡ Some ms → Derives is ms ts
sound is [] ms e = by (may_stop is) refl e
  where
    by : (b : Bool) → may_stop is ≡ b → if_true (Some []) b ≡ Some ms → Derives is ms []
    by true eb e = let same : [] ≡ ms = cc in subst (λ ns. Derives is ns []) same (stopped is eb)
    by false eb e = absurd cc
sound is (t ∷ ts) ms e = by (λ js ns f. sound js ts ns f) (feed is t.class) refl e
  where
    by : ((js : List Item) (ns : List Marked) → run js ts ≡ Some ns → Derives js ns ts) → (x : Option Taken) → feed is t.class ≡ x → run_on t x (λ js. run js ts) ≡ Some ms → Derives is ms (t ∷ ts)
    by below None ex e = absurd cc
    by below (Some f) ex e = under (run f.left ts) refl e
      where
        under : (y : Option (List Marked)) → run f.left ts ≡ y → option_map (λ ns. marked f.mark t ∷ ns) y ≡ Some ms → Derives is ms (t ∷ ts)
        under None ey e = absurd cc
        under (Some ns) ey e =
            let same : marked f.mark t ∷ ns ≡ ms = cc in
            subst (λ xs. Derives is xs (t ∷ ts)) same (fed_derives is t f ns ts ex (below f.left ns ey))
