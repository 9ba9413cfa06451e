-- What is written is read back.
use Rattle.std.proofs.Common.{ℕ, ◌+◌, ◌*◌, true, false, List, ◌∷◌, ◌++◌, length, refl, arith}
use Rattle.std.proofs.lemmas.Bool.{eq-eqb, le-leb, lt-ltb}
use Rattle.wire.specs.declared.message.Message.{Message}
use Rattle.wire.specs.declared.message.Message.TheVariants.{Ask, Give, Word, Telling, Answer, Round, Reply, Complete}
use Rattle.wire.specs.Names.{home}
use Rattle.wire.specs.Format.{bytes4, bytes2}
use Rattle.wire.specs.Laws.{ReadsBack}
use Rattle.wire.proofs.Digits.{four, two}

pub reads_back : (m : Message) (objects : List ℕ) → ReadsBack m objects
reads_back (Ask o by to) objects n (w, a, b, e) =
    rw e (record { message = rw (four o.0 w.fits, le-leb 16 o.0 w.some, lt-ltb (home o.0) n w.near, lt-ltb by.0 n a, lt-ltb to.0 n b); part = refl })
reads_back (Give o to s) objects n (w, a, b, e) =
    rw e (record { message = rw (four o.0 w.fits, le-leb 16 o.0 w.some, lt-ltb (home o.0) n w.near, lt-ltb to.0 n a, four s.0 b); part = refl })
reads_back (Word from to s p) objects n (a, b, c, d, e, f, g) =
    let size : ℕ = length (3 ∷ from.0 ∷ to.0 ∷ (bytes4 s.0 ++ (bytes2 p.count ++ objects))) in
    record {
      message = rw (four s.0 c, two p.count e, eq-eqb size (9 + 4 * p.count) (omega arith), le-leb 9 size (omega arith), lt-ltb from.0 n a, lt-ltb to.0 n b, g, d);
      part = rw d;
    }
reads_back (Telling c o from) objects n (a, w, b, e) =
    rw e (record { message = rw (four c.0 a, four o.0 w.fits, le-leb 16 o.0 w.some, lt-ltb (home o.0) n w.near, lt-ltb from.0 n b); part = refl })
reads_back (Answer c o from) objects n (a, w, b, e) =
    rw e (record { message = rw (four c.0 a, four o.0 w.fits, le-leb 16 o.0 w.some, lt-ltb (home o.0) n w.near, lt-ltb from.0 n b); part = refl })
reads_back (Round c r) objects n (a, b, e) = rw e (record { message = rw (four c.0 a, four r.0 b); part = refl })
reads_back (Reply c r from true t) objects n (a, b, d, f, e) =
    rw e (record { message = rw (four c.0 a, four r.0 b, lt-ltb from.0 n d, four t.0 f); part = refl })
reads_back (Reply c r from false t) objects n (a, b, d, f, e) =
    rw e (record { message = rw (four c.0 a, four r.0 b, lt-ltb from.0 n d, four t.0 f); part = refl })
reads_back (Complete c) objects n (a, e) = rw e (record { message = rw (four c.0 a); part = refl })
