use Rattle.std.proofs.Common.{◌≡◌, ◌<◌, ◌+◌, ◌-◌, length, take, get_or, true, refl, sym, ap, ◌∙◌, subst, arith}
use Rattle.std.proofs.lemmas.Str.{IsCharBoundary-after_ascii}
use Rattle.esm_specifier.specs.Resolution.{decides, scope_at}
use Rattle.esm_specifier.specs.Inner.Lookups.{Decides}
use Rattle.esm_specifier.proofs.Keys.Longest.{longest_start, longest_step, undecided, passes, passes_then, decides_reaches, scope_without, decided_scope}
use Rattle.esm_specifier.proofs.Keys.Prefixes.{reached_prefix}
use Rattle.esm_specifier.proofs.lookup.find_scope_prefix.Goals as goal

pub loop-end-init : goal.loop-end-init
loop-end-init c =
    let q = decides c.args.referrer.now c.args.prefixes c.args.normal.now c.args.scopes.now in
    longest_start true c.args.referrer.now c.as_bytes-bytes.result.now (passes c.args.scopes.now q) c.utf8.referrer (record { only = λ k e. decides_reaches c.args.referrer.now c.args.prefixes c.args.normal.now c.args.scopes.now k (passes_then c.args.scopes.now q k e) }) c.as_bytes-bytes.ensures.value

pub split_at-requires : goal.split_at-requires
split_at-requires c =
    let same = c.as_bytes-bytes.ensures.value in
    let here : get_or c.args.referrer.now (c.loop-end.end - 1) 0 ≡ 47 = ap (λ b. get_or b (c.loop-end.end - 1) 0) (sym same) ∙ c.if-bytes-end-eq47.true in
    let below : c.loop-end.end - 1 < length c.args.referrer.now = omega (arith, ap length same, c.loop-end-test.true, c.loop-end.auto.end) in
    IsCharBoundary-after_ascii c.args.referrer.now (c.loop-end.end - 1) c.utf8.referrer below (omega (arith, here))

pub returns-in-Some : goal.returns-in-Some
returns-in-Some c =
    let text = c.args.referrer.now in
    let key = take (c.loop-end.end - 1 + 1) text in
    let same = c.as_bytes-bytes.ensures.value in
    let here : get_or text (c.loop-end.end - 1) 0 ≡ 47 = ap (λ b. get_or b (c.loop-end.end - 1) 0) (sym same) ∙ c.if-bytes-end-eq47.true in
    let below : c.loop-end.end - 1 < length text = omega (arith, ap length same, c.loop-end-test.true, c.loop-end.auto.end) in
    let front = c.split_at.ensures.front in
    let len : c.loop-end.end ≡ length key = omega (arith, c.split_at.ensures.front_len, ap length front, c.loop-end-test.true) in
    let d = subst (λ k. Decides c.args.prefixes c.args.normal.now (scope_at k c.args.scopes.now) c.in-Some.found.key_len c.in-Some.found.address.now) front c.in-Some.ensures in
    decided_scope text c.args.prefixes c.args.normal.now c.args.scopes.now key _ _ c.utf8.referrer (reached_prefix text (c.loop-end.end - 1) below here) d c.loop-end.end len c.loop-end.invariant

pub loop-end-preserved-in_default : goal.loop-end-preserved-in_default
loop-end-preserved-in_default c =
    let scopes = c.args.scopes.now in
    let text = c.args.referrer.now in
    let q = decides text c.args.prefixes c.args.normal.now scopes in
    longest_step true text (passes scopes q) (c.loop-end.end - 1) c.loop-end.end (record { only = λ k e. decides_reaches text c.args.prefixes c.args.normal.now scopes k (passes_then scopes q k e) }) (scope_without text c.args.prefixes c.args.normal.now scopes text text refl c.requires) c.loop-end.invariant (omega (arith, c.loop-end-test.true))
    (λ slash. scope_without text c.args.prefixes c.args.normal.now scopes (take (c.loop-end.end - 1 + 1) text) c.split_at.result.0.now c.split_at.ensures.front c.in_default.ensures)

pub loop-end-preserved : goal.loop-end-preserved
loop-end-preserved c =
    let scopes = c.args.scopes.now in
    let text = c.args.referrer.now in
    let q = decides text c.args.prefixes c.args.normal.now scopes in
    longest_step true text (passes scopes q) (c.loop-end.end - 1) c.loop-end.end (record { only = λ k e. decides_reaches text c.args.prefixes c.args.normal.now scopes k (passes_then scopes q k e) }) (scope_without text c.args.prefixes c.args.normal.now scopes text text refl c.requires) c.loop-end.invariant (omega (arith, c.loop-end-test.true))
    (λ slash. absurd (c.if-bytes-end-eq47.false (ap (λ b. get_or b (c.loop-end.end - 1) 0) c.as_bytes-bytes.ensures.value ∙ slash)))

pub returns : goal.returns
returns c =
    let scopes = c.args.scopes.now in
    let text = c.args.referrer.now in
    let q = decides text c.args.prefixes c.args.normal.now scopes in
    undecided true text scopes q (record { only = λ k e. decides_reaches text c.args.prefixes c.args.normal.now scopes k (passes_then scopes q k e) }) (scope_without text c.args.prefixes c.args.normal.now scopes text text refl c.requires) c.loop-end.end c.loop-end-test.false c.loop-end.invariant
