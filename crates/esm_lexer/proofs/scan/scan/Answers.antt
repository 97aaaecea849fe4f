use Rattle.std.proofs.Common.{◌≡◌, ℕ, ◌-◌, List, length, get_or, take, drop, encode_utf8_all, arith, rules, length-drop}
use Rattle.std.proofs.lemmas.List.{get_or_default}
use Rattle.esm_lexer.proofs.Fronts.{at_is, past, range_is}
use Rattle.esm_lexer.proofs.LexLemmas.{scan_begins, scan_blank, scan_token, scan_stuck, scan_ends}
use Rattle.esm_lexer.proofs.scan.scan.Goals as goal

pub loop-at-init : goal.loop-at-init
loop-at-init c = (search rules, scan_begins _ _ _ _ c.requires.source c.new-found.ensures)

-- the text of what is left
source_is : (text left : List ℕ) (at : ℕ) → left ≡ encode_utf8_all (drop at text) → left ≡ encode_utf8_all (take (length text - at) (drop at text))
source_is text left at e = rw (range_is at text) e

pub front-requires-clause-source : goal.front-requires-clause-source
front-requires-clause-source c = source_is c.args.text.now _ c.loop-at.at c.loop-at.invariant.1.left_is

pub front-requires-in-Some-2-clause-source : goal.front-requires-in-Some-2-clause-source
front-requires-in-Some-2-clause-source c = source_is c.args.text.now _ c.loop-at.at c.loop-at.invariant.1.left_is

pub token_at-requires-clause-source : goal.token_at-requires-clause-source
token_at-requires-clause-source c = source_is c.args.text.now _ c.loop-at.at c.loop-at.invariant.1.left_is

pub loop-at-preserved-in-Some : goal.loop-at-preserved-in-Some
loop-at-preserved-in-Some c =
    let text = c.args.text.now in
    let l = c.loop-at in
    let value = rw (range_is l.at text) at c.in-Some.ensures.value in
    let within = rw (range_is l.at text) at c.in-Some.ensures.within in
    let behind = rw (range_is l.at text) at c.front.ensures.behind in (
      search rules,
      scan_blank (length c.args.bytes.now) text l.at _ c.in-Some.n _ l.newline c.in-Some.ends_line _ _ l.invariant.1 value (omega (arith, within.1, length-drop l.at text)) behind c.either-newline.ensures,
    )

pub loop-at-preserved : goal.loop-at-preserved
loop-at-preserved c =
    let text = c.args.text.now in
    let l = c.loop-at in
    let none = rw (range_is l.at text) at c.in-None.ensures.value in
    let found = rw (c.in-Some-2.is, range_is l.at text) at c.in_ok-token-in-None.ensures in
    let behind = rw (range_is l.at text) at c.front-in-Some-2.ensures.behind in (
      search rules,
      scan_token (length c.args.bytes.now) text l.at _ c.in-Some-2.token.len _ l.newline _ _ _ _ _ l.invariant.1 none found behind (omega (arith, found.within, length-drop l.at text))
          (rw (← c.saturating_sub.ensures, ← c.saturating_sub-in-Some-2.ensures, ← c.new.ensures) c.in_ok-push-in-Some-2.ensures.ok),
    )

pub returns-in-None-2 : goal.returns-in-None-2
returns-in-None-2 c =
    let text = c.args.text.now in
    let l = c.loop-at in
    let none = rw (range_is l.at text) at c.in-None.ensures.value in
    let stuck = rw (c.in-None-2.is, range_is l.at text) at c.in_ok-token-in-None.ensures in
    scan_stuck (length c.args.bytes.now) text l.at _ l.newline _ _ _ l.invariant.1 (at_is text l.at (get_or text l.at 0) c.loop-at-test.true (get_or_default text l.at 0 (get_or text l.at 0) c.loop-at-test.true)) none stuck

pub returns : goal.returns
returns c =
    let text = c.args.text.now in
    let l = c.loop-at in
    scan_ends (length c.args.bytes.now) text l.at _ l.newline _ l.invariant.1 (past text l.at c.loop-at-test.false)
