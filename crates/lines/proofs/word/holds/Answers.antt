use Rattle.std.proofs.Common.{◌≡◌, ◌∙◌, ap, subst, sym, map, [], w32, rules}
use Rattle.std.proofs.lemmas.List.Sorted.{answers_always}
use Rattle.std.specs.Int.{from_be_bytes}
use Rattle.wire.specs.Format.{numbers}
use Rattle.lines.specs.Words.{Ascending}
use Rattle.lines.specs.Listed.{is_in}
use Rattle.wire.proofs.Parts.{chunk_numbers}
use Rattle.lines.proofs.Numbers.{searched}
use Rattle.lines.proofs.word.holds.Goals as goal

pub returns : goal.returns
returns c =
    let facts = c.binary_search_by_key.ensures in
    let is : map (from_be_bytes w32) c.as_chunks.result.0.now ≡ numbers c.args.objects.now = ap (map (from_be_bytes w32)) c.as_chunks.ensures.front ∙ chunk_numbers c.args.objects.now in
    c.is_ok.ensures.value
    ∙ searched (from_be_bytes w32) c.args.object.0 _ [] _ (subst Ascending (sym is) c.requires) facts.bound (facts.position (from_be_bytes w32) (answers_always _ _ _ (λ f a r g called. search rules)))
    ∙ ap (is_in c.args.object.0) is
