use Rattle.std.proofs.Common.{◌∙◌, ◌+◌, ◌∷◌, [], true, cond, drop, get_or, sym, ap, subst}
use Rattle.std.specs.List.{list_any}
use Rattle.std.specs.Borrow.{Bor}
use Rattle.std.specs.Ordering.{nat_cmp}
use Rattle.std.specs.Cmp.Lexicographic.{slice_cmp}
use Rattle.std.specs.BTreeMap.{is_at}
use Rattle.std.specs.BTreeSet.{contains}
use Rattle.std.proofs.lemmas.Map.Text.{is_eq-slice_cmp}
use Rattle.esm_base.specs.Urls.{Text}
use Rattle.esm_parse_mod.proofs.StatementLemmas.{not_so, so}
use Rattle.esm_parse_mod.proofs.NamesLemmas.{at_is, past, get_or_any}
use Rattle.esm_parse_mod.proofs.SeenLemmas.{Seen, seen_none, seen_twice, seen_more, seen_all, seen_same}
use Rattle.esm_parse_mod.proofs.errors.distinct.Goals as goal

pub loop-name-init : goal.loop-name-init
loop-name-init c = seen_none _ _ (λ q. ap (λ ks. list_any (is_at (λ k. slice_cmp nat_cmp q.now k.now)) ks) c.new-found.ensures.empty)

pub loop-name-preserved : goal.loop-name-preserved
loop-name-preserved c =
    let l = c.loop-name in
    let ns = c.args.names.now in
    let holds = contains (λ x y. slice_cmp nat_cmp x.now y.now) l.found in
    let d : Bor Text = record { ref_ptr = (0, 0); now = [] } in
    let r = get_or ns l.name-index d in
    let e = at_is ns l.name-index r c.loop-name-test.true (get_or_any ns l.name-index d r c.loop-name-test.true) in
    let seen : Seen ns (r ∷ drop (l.name-index + 1) ns) holds = subst (λ t. Seen ns t holds) e l.invariant in
    seen_more ns r _ holds seen _ (not_so _ (sym c.in_ok-added.ensures.added ∙ c.if-not-added.false)) (λ q. c.in_ok-added.ensures.updates.0 q ∙ ap (λ b. cond b true (holds q)) (is_eq-slice_cmp r.now q.now))

pub returns-then-not-added : goal.returns-then-not-added
returns-then-not-added c =
    let l = c.loop-name in
    let ns = c.args.names.now in
    let holds = contains (λ x y. slice_cmp nat_cmp x.now y.now) l.found in
    let d : Bor Text = record { ref_ptr = (0, 0); now = [] } in
    let r = get_or ns l.name-index d in
    let e = at_is ns l.name-index r c.loop-name-test.true (get_or_any ns l.name-index d r c.loop-name-test.true) in
    let seen : Seen ns (r ∷ drop (l.name-index + 1) ns) holds = subst (λ t. Seen ns t holds) e l.invariant in
    seen_twice ns r _ holds seen (so _ (sym c.in_ok-added.ensures.added ∙ c.if-not-added.true))

pub returns : goal.returns
returns c =
    let l = c.loop-name in
    let ns = c.args.names.now in
    let holds = contains (λ x y. slice_cmp nat_cmp x.now y.now) l.found in
    let seen : Seen ns [] holds = subst (λ t. Seen ns t holds) (past ns l.name-index c.loop-name-test.false) l.invariant in
    record { distinct = seen_all ns holds seen; same = λ s. seen_same ns holds seen (record { ref_ptr = (0, 0); now = s }) }
