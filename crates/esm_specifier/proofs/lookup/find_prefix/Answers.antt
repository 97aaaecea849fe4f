use Rattle.std.proofs.Common.{◌≡◌, ◌<◌, ◌+◌, ◌-◌, length, take, get_or, is_some, true, sym, ap, ◌∙◌, arith}
use Rattle.std.proofs.lemmas.Str.{IsCharBoundary-after_ascii}
use Rattle.esm_base.specs.TextMap.{at}
use Rattle.esm_specifier.specs.Resolution.{reaches}
use Rattle.esm_specifier.proofs.Keys.Longest.{longest_start, longest_step, decided, undecided, absent, missing, passes, passes_then}
use Rattle.esm_specifier.proofs.Keys.Prefixes.{reached_prefix}
use Rattle.esm_specifier.proofs.lookup.find_prefix.Goals as goal

pub loop-place-init : goal.loop-place-init
loop-place-init c = longest_start true c.args.normal.now c.as_bytes-bytes.result.now _ c.utf8.normal (record { only = λ k e. passes_then c.args.map.now (reaches true c.args.normal.now) k e }) c.as_bytes-bytes.ensures.value

pub split_at-requires : goal.split_at-requires
split_at-requires c =
    let same = c.as_bytes-bytes.ensures.value in
    let here : get_or c.args.normal.now (c.loop-place.place - 1) 0 ≡ 47 = ap (λ b. get_or b (c.loop-place.place - 1) 0) (sym same) ∙ c.if-bytes-place-eq47.true in
    let below : c.loop-place.place - 1 < length c.args.normal.now = omega (arith, ap length same, c.loop-place-test.true, c.loop-place.auto.place) in
    IsCharBoundary-after_ascii c.args.normal.now (c.loop-place.place - 1) c.utf8.normal below (omega (arith, here))

pub returns-in-Some : goal.returns-in-Some
returns-in-Some c =
    let map = c.args.map.now in
    let text = c.args.normal.now in
    let key = take (c.loop-place.place - 1 + 1) text in
    let same = c.as_bytes-bytes.ensures.value in
    let here : get_or c.args.normal.now (c.loop-place.place - 1) 0 ≡ 47 = ap (λ b. get_or b (c.loop-place.place - 1) 0) (sym same) ∙ c.if-bytes-place-eq47.true in
    let below : c.loop-place.place - 1 < length c.args.normal.now = omega (arith, ap length same, c.loop-place-test.true, c.loop-place.auto.place) in
    let front = c.split_at.ensures.front in
    let len : c.loop-place.place ≡ length key = omega (arith, c.split_at.ensures.front_len, ap length front, c.loop-place-test.true) in
    let found : is_some (at key map) ≡ true = ap (λ k. is_some (at k map)) (sym front) ∙ ap is_some (sym c.in-Some.ensures) in
    record {
      key = decided true text map (reaches true text) key c.utf8.normal (record { only = λ k e. e }) found (reached_prefix text (c.loop-place.place - 1) below here) c.loop-place.place len c.loop-place.invariant;
      entry = ap (λ k. at k map) (sym front) ∙ sym c.in-Some.ensures;
      cut = IsCharBoundary-after_ascii text (c.loop-place.place - 1) c.utf8.normal below (omega (arith, here));
    }

pub loop-place-preserved-in_default : goal.loop-place-preserved-in_default
loop-place-preserved-in_default c =
    let map = c.args.map.now in
    let text = c.args.normal.now in
    let q = reaches true text in
    longest_step true text (passes map q) (c.loop-place.place - 1) c.loop-place.place (record { only = λ k e. passes_then map q k e }) (missing map q text c.requires) c.loop-place.invariant (omega (arith, c.loop-place-test.true))
    (λ slash. absent map q (take (c.loop-place.place - 1 + 1) text) c.split_at.result.0.now c.split_at.ensures.front c.in_default.ensures)

pub loop-place-preserved : goal.loop-place-preserved
loop-place-preserved c =
    let map = c.args.map.now in
    let text = c.args.normal.now in
    let q = reaches true text in
    longest_step true text (passes map q) (c.loop-place.place - 1) c.loop-place.place (record { only = λ k e. passes_then map q k e }) (missing map q text c.requires) c.loop-place.invariant (omega (arith, c.loop-place-test.true))
    (λ slash. absurd (c.if-bytes-place-eq47.false (ap (λ b. get_or b (c.loop-place.place - 1) 0) c.as_bytes-bytes.ensures.value ∙ slash)))

pub returns : goal.returns
returns c =
    let map = c.args.map.now in
    let text = c.args.normal.now in
    let q = reaches true text in
    undecided true text map q (record { only = λ k e. passes_then map q k e }) (missing map q text c.requires) c.loop-place.place c.loop-place-test.false c.loop-place.invariant
