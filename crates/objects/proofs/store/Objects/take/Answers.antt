use Rattle.std.proofs.Common.{◌≡◌, true, false, Err, sym, ap, ◌∙◌, rules}
use Rattle.wire.specs.declared.refusal.Refusal.TheVariants.{NoRoom}
use Rattle.objects.specs.Calls.{heap_of, take_answer, root_answer, rooted, roomy, unless_refused}
use Rattle.objects.proofs.Helds.{roomy_len, refused_so}
use Rattle.objects.proofs.store.Objects.take.Goals as goal

pub returns-then-not-has_room : goal.returns-then-not-has_room
returns-then-not-has_room c =
    let s = c.args.self.now in
    let o = c.args.o.0 in
    let full : roomy (heap_of s) ≡ false = sym (roomy_len s) ∙ sym c.has_room.ensures ∙ c.if-not-has_room.true in
    let v : Err NoRoom ≡ take_answer o (heap_of s) = search rules in
    record { value = v; after = refused_so (take_answer o (heap_of s)) NoRoom (rooted o (heap_of s)) (heap_of s) v }

pub returns : goal.returns
returns c =
    let s = c.args.self.now in
    let o = c.args.o.0 in
    let free : roomy (heap_of s) ≡ true = sym (roomy_len s) ∙ sym c.has_room.ensures ∙ c.if-not-has_room.false in
    let e : root_answer o (heap_of s) ≡ take_answer o (heap_of s) = search rules in
    record {
      value = c.add_root.ensures.value ∙ e;
      after = c.add_root.ensures.after ∙ ap (λ r. unless_refused r (rooted o (heap_of s)) (heap_of s)) (c.add_root.ensures.value ∙ e);
    }
