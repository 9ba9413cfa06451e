-- A word, and tellings, by their parts.
use Rattle.std.proofs.Common.{◌≡◌, ℕ, true, false, eqb, leb, List, [], ◌∷◌, map, length, is_ok, Ok}
use Rattle.wire.specs.declared.names.House as wire
use Rattle.wire.specs.declared.names.Census.{Census}
use Rattle.wire.specs.Names.{house, name}
use Rattle.objects.specs.Executed.{references_of}
use Rattle.lines.specs.Stamping.{stamp, seen_from}
use Rattle.wire.specs.declared.names.Stamp.{Stamp}
use Rattle.wire.specs.declared.message.Message.TheVariants.{Word, Telling}
use Rattle.census.specs.Model.{Part, due_of, telling}
use Rattle.rules.specs.House.{House, self, houses, census, with_part}
use Rattle.rules.specs.Step.{letter, used, tells, worded, bytes_of}

pub word_step :
    (h : House) (j : ℕ) (from to : wire.House) (st : Stamp) (k : ℕ) (bs : List ℕ) → leb (houses h) j ≡ false → eqb j (self h) ≡ false → from ≡ house (self h) → to ≡ house j → st ≡ stamp (seen_from h.stamps j) →
    k ≡ length (references_of j h.heap) → bs ≡ bytes_of (references_of j h.heap) → worded j h ≡ record { answer = Ok ((Word from to st (record { at = 9; count = k }), bs) ∷ []); house = h }
word_step h j from to st k bs a b f t s n e = rw (a, b, f, t, s, n, e)

pub tell_step :
    (h : House) (c : Census) (from : wire.House) (os : List ℕ) (p : Part) → c ≡ record { 0 = census h } → from ≡ house (self h) → os ≡ due_of (used h) h.part → p ≡ telling (used h) h.part →
    tells h ≡ record { answer = Ok (map (λ o. letter (Telling c (name o) from)) os); house = with_part p h }
tell_step h c from os p a b d e = rw (a, b, d, e)

-- a word to another house that there is is never refused
pub word_ok : (h : House) (j : ℕ) → leb (houses h) j ≡ false → eqb j (self h) ≡ false → is_ok (worded j h).answer ≡ true
word_ok h j a b = rw (a, b)
