use Rattle.std.proofs.Common.{[], refl, arith}
use Rattle.esm_values.specs.Code.{value_of, numbered}
use Rattle.esm_expr_eval.proofs.Steps as steps
use Rattle.esm_expr_eval.specs.declared.frame.Frame.TheVariants as f
use Rattle.esm_expr_eval.proofs.frame.begin.Goals as goal

pub returns-in-Ok-Value-clause-tells : goal.returns-in-Ok-Value-clause-tells
returns-in-Ok-Value-clause-tells g c =
    let node = (rw c.in-Name.is at c.expr.ensures).node in
    let a = rw (c.in-Ok-Value.field-0-is, c.as_str-in-Name.ensures.value) at c.in-Ok-Value.ensures in
    steps.read_goes g.W.World.url_of g.W.World.acts c.args.tree.now.exprs c.args.frames.now.items _ _ c.args.id c.in-Name.name node (value_of c.in-Ok-Value.value) a

pub returns-in-Ok-Thrown-clause-tells : goal.returns-in-Ok-Thrown-clause-tells
returns-in-Ok-Thrown-clause-tells g c =
    let node = (rw c.in-Name.is at c.expr.ensures).node in
    let a = rw (c.in-Ok-Thrown.field-0-is, c.as_str-in-Name.ensures.value) at c.in-Ok-Thrown.ensures in
    steps.read_leaves g.W.World.url_of g.W.World.acts c.args.tree.now.exprs c.args.frames.now.items _ _ c.args.id c.in-Name.name node (value_of c.in-Ok-Thrown.error) a

pub returns-in-Err-read-clause-tells : goal.returns-in-Err-read-clause-tells
returns-in-Err-read-clause-tells g c =
    let node = (rw c.in-Name.is at c.expr.ensures).node in
    let a = rw c.as_str-in-Name.ensures.value at c.in-Err-read.ensures in
    steps.read_stops g.W.World.url_of g.W.World.acts c.args.tree.now.exprs c.args.frames.now.items _ _ c.args.id c.in-Name.name node c.in-Err-read.stop a

pub returns-in-Or-clause-tells : goal.returns-in-Or-clause-tells
returns-in-Or-clause-tells g c =
    let node = rw c.in-Or.is at c.expr.ensures in
    steps.begun_tells g.W.World.url_of g.W.World.acts c.args.tree.now.exprs c.args.frames.now.items _ _ _ (f.Or c.args.id 0) c.in-Or.first _ (rw node.node refl) c.begin_in.ensures

pub returns-in-Or-clause-keeps : goal.returns-in-Or-clause-keeps
returns-in-Or-clause-keeps g c =
    let node = rw c.in-Or.is at c.expr.ensures in
    let a = c.requires.id in
    let b = node.below.0 in
    steps.begins_keeps c.args.tree.now.exprs c.args.frames.now.items _ (f.Or c.args.id 0) c.in-Or.first _ _ c.requires.frames c.requires.id (omega (arith, a, b)) (rw node.node (omega arith)) c.begin_in.ensures

pub returns-in-And-clause-tells : goal.returns-in-And-clause-tells
returns-in-And-clause-tells g c =
    let node = rw c.in-And.is at c.expr.ensures in
    steps.begun_tells g.W.World.url_of g.W.World.acts c.args.tree.now.exprs c.args.frames.now.items _ _ _ (f.And c.args.id 0) c.in-And.first _ (rw node.node refl) c.begin_in-in-And.ensures

pub returns-in-And-clause-keeps : goal.returns-in-And-clause-keeps
returns-in-And-clause-keeps g c =
    let node = rw c.in-And.is at c.expr.ensures in
    let a = c.requires.id in
    let b = node.below.0 in
    steps.begins_keeps c.args.tree.now.exprs c.args.frames.now.items _ (f.And c.args.id 0) c.in-And.first _ _ c.requires.frames c.requires.id (omega (arith, a, b)) (rw node.node (omega arith)) c.begin_in-in-And.ensures

pub returns-in-Equal-clause-tells : goal.returns-in-Equal-clause-tells
returns-in-Equal-clause-tells g c =
    let node = rw c.in-Equal.is at c.expr.ensures in
    steps.begun_tells g.W.World.url_of g.W.World.acts c.args.tree.now.exprs c.args.frames.now.items _ _ _ (f.Equal c.args.id 0) c.in-Equal.first _ (rw node.node refl) c.begin_in-in-Equal.ensures

pub returns-in-Equal-clause-keeps : goal.returns-in-Equal-clause-keeps
returns-in-Equal-clause-keeps g c =
    let node = rw c.in-Equal.is at c.expr.ensures in
    let a = c.requires.id in
    let b = node.below.0 in
    steps.begins_keeps c.args.tree.now.exprs c.args.frames.now.items _ (f.Equal c.args.id 0) c.in-Equal.first _ _ c.requires.frames c.requires.id (omega (arith, a, b)) (rw node.node (omega arith)) c.begin_in-in-Equal.ensures

pub returns-in-Sum-clause-tells : goal.returns-in-Sum-clause-tells
returns-in-Sum-clause-tells g c =
    let node = rw c.in-Sum.is at c.expr.ensures in
    steps.begun_tells g.W.World.url_of g.W.World.acts c.args.tree.now.exprs c.args.frames.now.items _ _ _ (f.Sum c.args.id 0) c.in-Sum.first _ (rw node.node refl) c.begin_in-in-Sum.ensures

pub returns-in-Sum-clause-keeps : goal.returns-in-Sum-clause-keeps
returns-in-Sum-clause-keeps g c =
    let node = rw c.in-Sum.is at c.expr.ensures in
    let a = c.requires.id in
    let b = node.below.0 in
    steps.begins_keeps c.args.tree.now.exprs c.args.frames.now.items _ (f.Sum c.args.id 0) c.in-Sum.first _ _ c.requires.frames c.requires.id (omega (arith, a, b)) (rw node.node (omega arith)) c.begin_in-in-Sum.ensures

pub returns-in-Not-clause-tells : goal.returns-in-Not-clause-tells
returns-in-Not-clause-tells g c =
    let node = rw c.in-Not.is at c.expr.ensures in
    steps.begun_tells g.W.World.url_of g.W.World.acts c.args.tree.now.exprs c.args.frames.now.items _ _ _ (f.Not) c.in-Not.inner _ (rw node.node refl) c.begin_in-in-Not.ensures

pub returns-in-Not-clause-keeps : goal.returns-in-Not-clause-keeps
returns-in-Not-clause-keeps g c =
    let node = rw c.in-Not.is at c.expr.ensures in
    let a = c.requires.id in
    let b = node.below in
    steps.begins_keeps c.args.tree.now.exprs c.args.frames.now.items _ (f.Not) c.in-Not.inner _ _ c.requires.frames tt (omega (arith, a, b)) (rw node.node (omega arith)) c.begin_in-in-Not.ensures

pub returns-in-Post-clause-tells : goal.returns-in-Post-clause-tells
returns-in-Post-clause-tells g c =
    let node = rw c.in-Post.is at c.expr.ensures in
    steps.begun_tells g.W.World.url_of g.W.World.acts c.args.tree.now.exprs c.args.frames.now.items _ _ _ (f.Post c.args.id 0) c.in-Post.head _ (rw node.node refl) c.begin_in-in-Post.ensures

pub returns-in-Post-clause-keeps : goal.returns-in-Post-clause-keeps
returns-in-Post-clause-keeps g c =
    let node = rw c.in-Post.is at c.expr.ensures in
    let a = c.requires.id in
    let b = node.below.0 in
    steps.begins_keeps c.args.tree.now.exprs c.args.frames.now.items _ (f.Post c.args.id 0) c.in-Post.head _ _ c.requires.frames c.requires.id (omega (arith, a, b)) (rw node.node (omega arith)) c.begin_in-in-Post.ensures

pub returns-in-NewError-clause-tells : goal.returns-in-NewError-clause-tells
returns-in-NewError-clause-tells g c =
    let node = rw c.in-NewError.is at c.expr.ensures in
    steps.begun_tells g.W.World.url_of g.W.World.acts c.args.tree.now.exprs c.args.frames.now.items _ _ _ (f.NewError) c.in-NewError.message _ (rw node.node refl) c.begin_in-in-NewError.ensures

pub returns-in-NewError-clause-keeps : goal.returns-in-NewError-clause-keeps
returns-in-NewError-clause-keeps g c =
    let node = rw c.in-NewError.is at c.expr.ensures in
    let a = c.requires.id in
    let b = node.below in
    steps.begins_keeps c.args.tree.now.exprs c.args.frames.now.items _ (f.NewError) c.in-NewError.message _ _ c.requires.frames tt (omega (arith, a, b)) (rw node.node (omega arith)) c.begin_in-in-NewError.ensures

pub returns-in-Import-clause-tells : goal.returns-in-Import-clause-tells
returns-in-Import-clause-tells g c =
    let node = rw c.in-Import.is at c.expr.ensures in
    steps.begun_tells g.W.World.url_of g.W.World.acts c.args.tree.now.exprs c.args.frames.now.items _ _ _ (f.Import) c.in-Import.specifier _ (rw node.node refl) c.begin_in-in-Import.ensures

pub returns-in-Import-clause-keeps : goal.returns-in-Import-clause-keeps
returns-in-Import-clause-keeps g c =
    let node = rw c.in-Import.is at c.expr.ensures in
    let a = c.requires.id in
    let b = node.below in
    steps.begins_keeps c.args.tree.now.exprs c.args.frames.now.items _ (f.Import) c.in-Import.specifier _ _ c.requires.frames tt (omega (arith, a, b)) (rw node.node (omega arith)) c.begin_in-in-Import.ensures

pub returns-in-Group-clause-tells : goal.returns-in-Group-clause-tells
returns-in-Group-clause-tells g c =
    let node = rw c.in-Group.is at c.expr.ensures in
    steps.is_same g.W.World.url_of g.W.World.acts c.args.tree.now.exprs c.args.frames.now.items _ _ _ (rw node.node refl)

pub returns-in-Group-clause-keeps : goal.returns-in-Group-clause-keeps
returns-in-Group-clause-keeps g c =
    let node = rw c.in-Group.is at c.expr.ensures in
    let a = c.requires.id in
    let b = node.below in
    (c.requires.frames, omega (arith, a, b), rw node.node (omega arith))

pub returns-in-Some-clause-tells : goal.returns-in-Some-clause-tells
returns-in-Some-clause-tells g c =
    let node = rw c.in-Print.is at c.expr.ensures in
    let id = (rw c.as_slice.ensures at c.in-Some.ensures.next) c.args.tree.now.exprs c.args.id.0 node.below in
    steps.begun_tells g.W.World.url_of g.W.World.acts c.args.tree.now.exprs c.args.frames.now.items _ _ _ (f.Print c.args.id 1 c.new.result) c.in-Some.first _ (steps.print_begun c.args.tree.now.exprs c.args.id c.in-Some.first _ c.new.result node.node c.new.ensures.items id.1) c.begin_in-in-Some.ensures

pub returns-in-Some-clause-keeps : goal.returns-in-Some-clause-keeps
returns-in-Some-clause-keeps g c =
    let node = rw c.in-Print.is at c.expr.ensures in
    let id = (rw c.as_slice.ensures at c.in-Some.ensures.next) c.args.tree.now.exprs c.args.id.0 node.below in
    let a = c.requires.id in
    let b = id.0 in
    let m = steps.operand_work id.1 in
    steps.begins_keeps c.args.tree.now.exprs c.args.frames.now.items _ (f.Print c.args.id 1 c.new.result) c.in-Some.first _ _ c.requires.frames c.requires.id (omega (arith, a, b)) (rw node.node (omega (arith, m))) c.begin_in-in-Some.ensures

pub returns-in-None-clause-tells : goal.returns-in-None-clause-tells
returns-in-None-clause-tells g c =
    let node = rw c.in-Print.is at c.expr.ensures in
    let nothing = (rw c.as_slice.ensures at c.in-None.ensures.next) c.args.tree.now.exprs c.args.id.0 node.below in
    let called = rw c.new-in-None.ensures.items at c.print.ensures in
    rw (node.node, nothing) (steps.printed_tells g.W.World.url_of g.W.World.acts c.args.tree.now.exprs c.args.frames.now.items _ _ [] _ called)

pub returns-in-None-clause-keeps : goal.returns-in-None-clause-keeps
returns-in-None-clause-keeps g c =
    let node = rw c.in-Print.is at c.expr.ensures in
    steps.planned_keeps g.W.World.url_of g.W.World.acts c.args.tree.now.exprs c.args.frames.now.items _ _ _ _ _ c.requires.frames (rw node.node (omega arith)) c.print.ensures

pub returns-then-is_pushed-clause-tells : goal.returns-then-is_pushed-clause-tells
returns-then-is_pushed-clause-tells g c =
    let node = rw c.in-EmptyError.is at c.expr.ensures in
    steps.value_pushed g.W.World.url_of g.W.World.acts c.args.tree.now.exprs c.args.frames.now.items _ _ _ _ f.NewError numbered.undefined (steps.is_same g.W.World.url_of g.W.World.acts c.args.tree.now.exprs c.args.frames.now.items _ _ _ (rw node.node refl)) (c.if-is_pushed.ensures refl)

pub returns-then-is_pushed-clause-keeps : goal.returns-then-is_pushed-clause-keeps
returns-then-is_pushed-clause-keeps g c =
    let node = rw c.in-EmptyError.is at c.expr.ensures in
    steps.keeps_value c.args.tree.now.exprs c.args.frames.now.items _ f.NewError _ c.requires.frames tt (rw node.node (omega arith)) (c.if-is_pushed.ensures refl)

pub returns-in-Ok-copy-clause-tells : goal.returns-in-Ok-copy-clause-tells
returns-in-Ok-copy-clause-tells g c =
    let node = rw c.in-Url.is at c.expr.ensures in
    rw (c.in-Ok-copy.ensures, c.url.ensures) (steps.url_goes g.W.World.url_of g.W.World.acts c.args.tree.now.exprs c.args.frames.now.items _ c.args.id node.node)
