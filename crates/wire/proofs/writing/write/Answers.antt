use Rattle.std.proofs.Common.{◌≡◌, true, ◌++◌, is_ok, vec_items, ap, ◌∙◌, append_assoc, arith}
use Rattle.wire.specs.Format.{head_of}
use Rattle.wire.proofs.writing.write.Goals as goal

-- there is room for all once it is reserved, so the objects follow the head
ok : (c : goal.After-extend_from_slice) → is_ok c.extend_from_slice.result ≡ true
ok c =
    let size = c.in-Some.ensures in
    let reserved = c.in_ok-reserve.ensures in
    let written = c.in_ok-write_head.ensures in
    c.extend_from_slice.ensures.succeeds (omega arith)

pub returns-clause-bytes : goal.returns-clause-bytes
returns-clause-bytes c =
    rw (ok c)
    (rw (ok c) at c.extend_from_slice.ensures.items
    ∙ ap (λ xs. xs ++ c.args.objects.now) (c.in_ok-write_head.ensures.bytes ∙ ap (λ xs. xs ++ head_of c.args.message) c.in_ok-reserve.ensures.items)
    ∙ append_assoc (vec_items c.args.out.now) (head_of c.args.message) c.args.objects.now)

pub returns-clause-succeeds : goal.returns-clause-succeeds
returns-clause-succeeds c = λ h. ok c
