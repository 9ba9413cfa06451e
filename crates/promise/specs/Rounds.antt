-- How the end of a census is found: by rounds, asked by house 0.
-- Each house has, beside what Net says, its part in the census that it is in; house 0 has the rounds.
use Rattle.std.specs.Prelude.{◌≡◌, ℕ, suc, ◌+◌, ◌<◌, ◌≤◌, Bool, true, false, cond, not, ◌&&◌, ◌||◌, T, ◌⊎◌, List, [], ◌∷◌, ◌==◌, ◌≢◌}
use mathlib.Core.List.{Memᴰ}
use Rattle.wire.specs.Names.{home}
use Rattle.tables.specs.Model.{is_in}
use Rattle.lines.specs.Listed.{listed, listed_in, marked}
use Rattle.promise.specs.House.{House, Used}
use Rattle.promise.specs.Net.{Mark, Sweep, Net, start, with, sends, in_census, with_list, Uses, Cleans}
use Rattle.promise.specs.Alike.{AlikeNet, SameNames}

-- told: the far references told in this census; answered: those whose telling was answered; tally: how often a line was newly found in use;
-- polled: the first round was answered; stirred: something was taken since
pub record Part : Type 0 where
  pub told : List ℕ
  pub answered : List ℕ
  pub tally : ℕ
  pub polled : Bool
  pub stirred : Bool

abbrev pub fresh : Part
fresh = record { told = []; answered = []; tally = 0; polled = false; stirred = false }

-- the answer of one house to one round
pub data Slot : Type 0 where
  none : Slot
  some : (calm : Bool) → (tally : ℕ) → Slot

-- round: the present round, 0 if there is none yet in this census; its answers; the answers of the round before
pub record Desk : Type 0 where
  pub round : ℕ
  pub now : ℕ → Slot
  pub before : ℕ → Slot

abbrev pub idle : Desk
idle = record { round = 0; now = λ i. none; before = λ i. none }

-- Answer: the home answers a telling. Round: house 0 asks all. Reply: the answer to it. (A telling is Mark, the end of a census is Sweep, see Net.)
pub data Note : Type 0 where
  Answer : (census object from : ℕ) → Note
  Round : (census round : ℕ) → Note
  Reply : (census round from : ℕ) → (calm : Bool) → (tally : ℕ) → Note

pub record World : Type 0 where
  pub net : Net
  pub part : ℕ → Part
  pub desk : Desk
  pub said : List Note

abbrev pub first : World
first = record { net = start; part = λ i. fresh; desk = idle; said = [] }

abbrev pub set : {A : Type 0} → ℕ → A → (ℕ → A) → ℕ → A
set i x f j = cond (j == i) x (f j)

abbrev pub telling : ℕ → Part → Part
telling o p = record { told = o ∷ p.told; answered = p.answered; tally = p.tally; polled = p.polled; stirred = p.stirred }

abbrev pub hearing : ℕ → Part → Part
hearing o p = record { told = p.told; answered = o ∷ p.answered; tally = p.tally; polled = p.polled; stirred = p.stirred }

-- one more if a line was newly found in use
abbrev pub counting : Bool → Part → Part
counting b p = record { told = p.told; answered = p.answered; tally = p.tally + cond b 1 0; polled = p.polled; stirred = p.stirred }

-- the first round sets polled
abbrev pub polling : ℕ → Part → Part
polling r p = record { told = p.told; answered = p.answered; tally = p.tally; polled = p.polled || (r == 1); stirred = p.stirred }

abbrev pub stirring : Part → Part
stirring p = record { told = p.told; answered = p.answered; tally = p.tally; polled = p.polled; stirred = p.stirred || p.polled }

-- a house that takes something after it answered the first round is stirred
abbrev pub stirs : {houses : ℕ} {n m : Net} → Uses houses n m → (ℕ → Part) → ℕ → Part
stirs (Uses.make n i k a b d) f = f
stirs (Uses.link n i o p a b d e) f = f
stirs (Uses.unlink n i o p a b d) f = f
stirs (Uses.load n i o p a b d e) f = f
stirs (Uses.drop n i o a) f = f
stirs (Uses.ask n i o j a b d) f = f
stirs (Uses.give n k o i j a b d e g h) f = f
stirs (Uses.give_home n k o i a b d e g) f = f
stirs (Uses.take n j o s a b d) f = set j (stirring (f j)) f

-- the collector's steps that are as in Net: all but join, tell, mark and complete
abbrev pub AsBefore : {houses : ℕ} {n m : Net} → Cleans houses n m → Type 0
AsBefore (Cleans.word n j k held a b d e f) = Unit {0}
AsBefore (Cleans.hear n j k held upto a b) = Unit {0}
AsBefore (Cleans.collect n i kept a k) = Unit {0}
AsBefore (Cleans.join n i c a b) = ⊥
AsBefore (Cleans.tell n i o a b d) = ⊥
AsBefore (Cleans.mark n k o i a b d) = ⊥
AsBefore (Cleans.complete n c a k) = ⊥
AsBefore (Cleans.sweep n i a b) = Unit {0}

-- all that the house uses of others is told, and all that is told is answered
pub record Calm (i c : ℕ) (h : House) (p : Part) : Type 0 where
  pub all_told : (o : ℕ) → (home o ≢ i) → Used c h o → T (is_in o p.told)
  pub all_answered : (o : ℕ) → T (is_in o p.told) → T (is_in o p.answered)

-- what a house says to round r: whether it is calm, and to the second round also that it isn't stirred
abbrev pub Fine : ℕ → ℕ → ℕ → House → Part → Type 0
Fine r i c h p = Calm i c h p × (r ≡ 2 → T p.stirred → ⊥)

-- the round was answered by all
abbrev pub AllIn : ℕ → (ℕ → Slot) → Type 0
AllIn houses f = (i : ℕ) → i < houses → (b : Bool) × (t : ℕ) × (f i ≡ some b t)

-- all said calm in this round and in the one before, with the same tally each
pub record Ended (houses : ℕ) (d : Desk) : Type 0 where
  pub somebody : 0 < houses
  pub second : 2 ≤ d.round
  pub same : (i : ℕ) → i < houses → (t : ℕ) × (d.now i ≡ some true t) × (d.before i ≡ some true t)

abbrev pub census_of : World → ℕ → ℕ
census_of w i = (w.net.house i).census

-- the same, but for the order in which things are written down and how often a message stands there
pub record AlikePart (p q : Part) : Type 0 where
  pub told : SameNames p.told q.told
  pub answered : SameNames p.answered q.answered
  pub tally : p.tally ≡ q.tally
  pub polled : p.polled ≡ q.polled
  pub stirred : p.stirred ≡ q.stirred

pub record Alike (w v : World) : Type 0 where
  pub net : AlikeNet w.net v.net
  pub part : (i : ℕ) → AlikePart (w.part i) (v.part i)
  pub round : w.desk.round ≡ v.desk.round
  pub now : (i : ℕ) → w.desk.now i ≡ v.desk.now i
  pub before : (i : ℕ) → w.desk.before i ≡ v.desk.before i
  pub said : (x : Note) → (Memᴰ x w.said → Memᴰ x v.said) × (Memᴰ x v.said → Memᴰ x w.said)

pub data Turn (houses : ℕ) : World → World → Type 0 where
  uses : (w : World) {m : Net} (u : Uses houses w.net m) → Turn houses w (record { net = m; part = stirs u w.part; desk = w.desk; said = w.said })
  cleans : (w : World) {m : Net} (s : Cleans houses w.net m) → AsBefore s → Turn houses w (record { net = m; part = w.part; desk = w.desk; said = w.said })
  join : (w : World) (i c : ℕ) → i < houses → census_of w i < c →
      Turn houses w (record { net = with i (in_census c (w.net.house i)) w.net; part = set i fresh w.part; desk = cond (i == 0) idle w.desk; said = w.said })
  tell : (w : World) (i o : ℕ) → i < houses → (home o ≢ i) → Used (census_of w i) (w.net.house i) o →
      Turn houses w (record { net = sends (Mark (census_of w i) o i) w.net; part = set i (telling o (w.part i)) w.part; desk = w.desk; said = w.said })
  mark : (w : World) (k o i : ℕ) → k < houses → home o ≡ k → Memᴰ (Mark (census_of w k) o i) w.net.sent →
      Turn houses w (record {
        net = with k (with_list (marked (census_of w k) o i (w.net.house k).list) (w.net.house k)) w.net;
        part = set k (counting (listed o i (w.net.house k).list && not (listed_in (census_of w k) o i (w.net.house k).list)) (w.part k)) w.part;
        desk = w.desk;
        said = Answer (census_of w k) o i ∷ w.said;
      })
  answer : (w : World) (i o : ℕ) → i < houses → Memᴰ (Answer (census_of w i) o i) w.said → T (is_in o (w.part i).told) →
      Turn houses w (record { net = w.net; part = set i (hearing o (w.part i)) w.part; desk = w.desk; said = w.said })
  begin : (w : World) → 0 < houses → (w.desk.round ≡ 0) ⊎ AllIn houses w.desk.now →
      Turn houses w (record {
        net = w.net;
        part = w.part;
        desk = record { round = suc w.desk.round; now = λ i. none; before = w.desk.now };
        said = Round (census_of w 0) (suc w.desk.round) ∷ w.said;
      })
  reply : (w : World) (i r : ℕ) (b : Bool) → i < houses → Memᴰ (Round (census_of w i) r) w.said →
      (b ≡ true → Fine r i (census_of w i) (w.net.house i) (w.part i)) → (b ≡ false → Fine r i (census_of w i) (w.net.house i) (w.part i) → ⊥) →
      Turn houses w (record { net = w.net; part = set i (polling r (w.part i)) w.part; desk = w.desk; said = Reply (census_of w i) r i b (w.part i).tally ∷ w.said })
  note : (w : World) (i : ℕ) (b : Bool) (t : ℕ) → i < houses → Memᴰ (Reply (census_of w 0) w.desk.round i b t) w.said → w.desk.now i ≡ none →
      Turn houses w (record { net = w.net; part = w.part; desk = record { round = w.desk.round; now = set i (some b t) w.desk.now; before = w.desk.before }; said = w.said })
  complete : (w : World) → Ended houses w.desk →
      Turn houses w (record { net = sends (Sweep (census_of w 0)) w.net; part = w.part; desk = w.desk; said = w.said })
  alike : (w v : World) → Alike w v → Turn houses w v

pub data Runs (houses : ℕ) : World → Type 0 where
  begun : Runs houses first
  then : {w v : World} → Runs houses w → Turn houses w v → Runs houses v

-- the run q is the run r up to some moment of it
pub data Upto {houses : ℕ} {u : World} (q : Runs houses u) : (w : World) → Runs houses w → Type 0 where
  all : Upto q u q
  on : {w v : World} {r : Runs houses w} → Upto q w r → (t : Turn houses w v) → Upto q v (Runs.then r t)

-- the turn begins a round
abbrev pub begins : {houses : ℕ} {w v : World} → Turn houses w v → Bool
begins (Turn.begin w a b) = true
begins t = false

-- the run r comes to the world v, and there its next turn begins a round
abbrev pub Begins : {houses : ℕ} {w : World} → Runs houses w → World → Type 0
Begins {houses} {w} r v = (u : World) × (q : Runs houses v) × (t : Turn houses v u) × (begins t ≡ true) × Upto (Runs.then q t) w r
