-- The run that loses an object where a stirred house says yes to the second round.
use Rattle.std.proofs.Common.{◌≡◌, ℕ, zero, suc, ◌<◌, Bool, true, T, eqb, List, [], ◌∷◌, ◌++◌, refl, subst, inl, inr, ⊎_elim, arith, lit<}
use mathlib.Core.List.Memᴰ
use mathlib.Core.List.{Memᴰ}
use Rattle.tables.specs.Met.{everywhere, Met, Some}
use Rattle.tables.specs.Model.{Object, present, fields_of}
use Rattle.lines.specs.Listed.{listed, listed_in, entered, marked, joined, heard_of, swept, objects_listed, objects_in}
use Rattle.promise.specs.Net.{Word, Net, Uses, Cleans, start, sends}
use Rattle.promise.specs.Rounds.{World, first, Turn, some}
use Rattle.promise.specs.Promise.{Has}
use Rattle.promise.specs.Careless.{Careless, StirredNeeded}
use Rattle.promise.proofs.Base.{cond_elim, is_in→mem, mem→is_in, true→mem, true→T}

abbrev Run : Type 0
Run = (w : World) × Careless 2 w

abbrev held : Net → ℕ → List ℕ
held n j = (n.house j).roots ++ everywhere (n.house j).objects

abbrev wording : (n : Net) (j k : ℕ) → j < 2 → k < 2 → (j ≡ k → ⊥) → Cleans 2 n (sends (Word j k (held n j) ((n.house j).seen k)) n)
wording n j k lj lk away =
    Cleans.word n j k (held n j) lj lk away
    (λ o e t. ⊎_elim (λ z. mem→is_in (Memᴰ.append_left (everywhere (n.house j).objects) (is_in→mem o (n.house j).roots z))) (λ z. mem→is_in (Memᴰ.append_right (n.house j).roots (is_in→mem o (everywhere (n.house j).objects) z))) t)
    (λ o t. ⊎_elim (λ z. inl (mem→is_in z)) (λ z. inr (mem→is_in z)) (Memᴰ.append_cases (n.house j).roots (is_in→mem o (held n j) t)))

nothing_met : {os : List Object} {o : ℕ} → Met os [] o → ⊥
nothing_met (Met.start m) = true→T m
nothing_met (Met.field m t f) = nothing_met m

-- one object without fields leads nowhere
bare_met : {x y : ℕ} {o : ℕ} → Met (record { name = x; fields = [] } ∷ []) (y ∷ []) o → o ≡ y
bare_met {y = y} (Met.start {o = o} m) = ⊎_elim (λ e. e) (λ z. absurd (Memᴰ.not-nil z)) (Memᴰ.cases_cons (true→mem o (y ∷ []) m))
bare_met {x = x} (Met.field {o = o} {p = p} m t f) =
    absurd (cond_elim (eqb x o) (λ l. Memᴰ p l → ⊥) (λ _ z. Memᴰ.not-nil z) (λ _ z. Memᴰ.not-nil z) (true→mem p (fields_of o (record { name = x; fields = [] } ∷ [])) f))

one : 0 < 2
one = lit< tt

two : 1 < 2
two = lit< tt

below_two : (P : ℕ → Type 0) → P 0 → P 1 → (i : ℕ) → i < 2 → P i
below_two P a b zero l = a
below_two P a b (suc zero) l = b
below_two P a b (suc (suc i)) l = absurd (omega arith)

gone : {o : ℕ} → o ≡ 33 → T (present o (record { name = 16; fields = [] } ∷ [])) → ⊥
gone e t = subst (λ (x : ℕ). T (present x (record { name = 16; fields = [] } ∷ []))) e t

-- 16 is made at 0 and handed to 1
abbrev s1 : Run
unfolding listed listed_in entered marked joined heard_of swept objects_listed objects_in Rattle.lines.specs.Listed.is_in
s1 = (_, Careless.then Careless.begun (Turn.uses first (Uses.make start 0 1 one (lit< tt) (lit< tt))))

abbrev s2 : Run
unfolding listed listed_in entered marked joined heard_of swept objects_listed objects_in Rattle.lines.specs.Listed.is_in
s2 = (_, Careless.then s1.1 (Turn.uses s1.0 (Uses.ask s1.0.net 0 16 1 one two tt)))

abbrev s3 : Run
unfolding listed listed_in entered marked joined heard_of swept objects_listed objects_in Rattle.lines.specs.Listed.is_in
s3 = (_, Careless.then s2.1 (Turn.uses s2.0 (Uses.give s2.0.net 0 16 0 1 one refl (Memᴰ.head refl) tt (inl (refl, tt)) (λ e. omega arith))))

abbrev s4 : Run
unfolding listed listed_in entered marked joined heard_of swept objects_listed objects_in Rattle.lines.specs.Listed.is_in
s4 = (_, Careless.then s3.1 (Turn.uses s3.0 (Uses.take s3.0.net 1 16 1 two (Memᴰ.head refl) (lit< tt))))

-- 33 is made at 1 and has 16 in a field
abbrev s5 : Run
unfolding listed listed_in entered marked joined heard_of swept objects_listed objects_in Rattle.lines.specs.Listed.is_in
s5 = (_, Careless.then s4.1 (Turn.uses s4.0 (Uses.make s4.0.net 1 2 two (lit< tt) (lit< tt))))

abbrev s6 : Run
unfolding listed listed_in entered marked joined heard_of swept objects_listed objects_in Rattle.lines.specs.Listed.is_in
s6 = (_, Careless.then s5.1 (Turn.uses s5.0 (Uses.link s5.0.net 1 33 16 two refl tt tt)))

-- 0 hears that 1 has seen 16
abbrev s7 : Run
unfolding listed listed_in entered marked joined heard_of swept objects_listed objects_in Rattle.lines.specs.Listed.is_in
s7 = (_, Careless.then s6.1 (Turn.cleans s6.0 (wording s6.0.net 1 0 two one (λ e. omega arith)) tt))

abbrev s8 : Run
unfolding listed listed_in entered marked joined heard_of swept objects_listed objects_in Rattle.lines.specs.Listed.is_in
s8 = (_, Careless.then s7.1 (Turn.cleans s7.0 (Cleans.hear s7.0.net 1 0 (held s7.0.net 1) 1 one (Memᴰ.head refl)) tt))

abbrev s9 : Run
unfolding listed listed_in entered marked joined heard_of swept objects_listed objects_in Rattle.lines.specs.Listed.is_in
s9 = (_, Careless.then s8.1 (Turn.uses s8.0 (Uses.drop s8.0.net 1 16 two)))

abbrev s10 : Run
unfolding listed listed_in entered marked joined heard_of swept objects_listed objects_in Rattle.lines.specs.Listed.is_in
s10 = (_, Careless.then s9.1 (Turn.uses s9.0 (Uses.drop s9.0.net 0 16 one)))

-- 0 begins census 1, and answers the first round
abbrev s11 : Run
unfolding listed listed_in entered marked joined heard_of swept objects_listed objects_in Rattle.lines.specs.Listed.is_in
s11 = (_, Careless.then s10.1 (Turn.join s10.0 0 1 one (lit< tt)))

abbrev s12 : Run
unfolding listed listed_in entered marked joined heard_of swept objects_listed objects_in Rattle.lines.specs.Listed.is_in
s12 = (_, Careless.then s11.1 (Turn.begin s11.0 one (inl refl)))

abbrev s13 : Run
unfolding listed listed_in entered marked joined heard_of swept objects_listed objects_in Rattle.lines.specs.Listed.is_in
s13 = (_, Careless.then s12.1 (Turn.reply s12.0 0 1 true one (Memᴰ.head refl) (λ _. (record { all_told = λ o a u. absurd (nothing_met u); all_answered = λ o t. absurd t }, λ e. absurd (omega arith))) (λ e. absurd (subst T e tt))))

-- 1, not yet in the census, hands 33 to 0, and hears that 0 has seen it
abbrev s14 : Run
unfolding listed listed_in entered marked joined heard_of swept objects_listed objects_in Rattle.lines.specs.Listed.is_in
s14 = (_, Careless.then s13.1 (Turn.uses s13.0 (Uses.ask s13.0.net 1 33 0 two one tt)))

abbrev s15 : Run
unfolding listed listed_in entered marked joined heard_of swept objects_listed objects_in Rattle.lines.specs.Listed.is_in
s15 = (_, Careless.then s14.1 (Turn.uses s14.0 (Uses.give s14.0.net 1 33 1 0 two refl (Memᴰ.head refl) tt (inl (refl, tt)) (λ e. omega arith))))

abbrev s16 : Run
unfolding listed listed_in entered marked joined heard_of swept objects_listed objects_in Rattle.lines.specs.Listed.is_in
s16 = (_, Careless.then s15.1 (Turn.uses s15.0 (Uses.take s15.0.net 0 33 1 one (Memᴰ.head refl) (lit< tt))))

abbrev s17 : Run
unfolding listed listed_in entered marked joined heard_of swept objects_listed objects_in Rattle.lines.specs.Listed.is_in
s17 = (_, Careless.then s16.1 (Turn.cleans s16.0 (wording s16.0.net 0 1 one two (λ e. omega arith)) tt))

abbrev s18 : Run
unfolding listed listed_in entered marked joined heard_of swept objects_listed objects_in Rattle.lines.specs.Listed.is_in
s18 = (_, Careless.then s17.1 (Turn.cleans s17.0 (Cleans.hear s17.0.net 0 1 (held s17.0.net 0) 1 two (Memᴰ.head refl)) tt))

abbrev s19 : Run
unfolding listed listed_in entered marked joined heard_of swept objects_listed objects_in Rattle.lines.specs.Listed.is_in
s19 = (_, Careless.then s18.1 (Turn.uses s18.0 (Uses.drop s18.0.net 1 33 two)))

-- 1 joins, uses nothing, and answers the first round and the second
abbrev s20 : Run
unfolding listed listed_in entered marked joined heard_of swept objects_listed objects_in Rattle.lines.specs.Listed.is_in
s20 = (_, Careless.then s19.1 (Turn.join s19.0 1 1 two (lit< tt)))

abbrev s21 : Run
unfolding listed listed_in entered marked joined heard_of swept objects_listed objects_in Rattle.lines.specs.Listed.is_in
s21 = (_, Careless.then s20.1 (Turn.reply s20.0 1 1 true two (Memᴰ.tail (Memᴰ.head refl)) (λ _. (record { all_told = λ o a u. absurd (nothing_met u); all_answered = λ o t. absurd t }, λ e. absurd (omega arith))) (λ e. absurd (subst T e tt))))

abbrev s22 : Run
unfolding listed listed_in entered marked joined heard_of swept objects_listed objects_in Rattle.lines.specs.Listed.is_in
s22 = (_, Careless.then s21.1 (Turn.note s21.0 1 true 0 two (Memᴰ.head refl) refl))

abbrev s23 : Run
unfolding listed listed_in entered marked joined heard_of swept objects_listed objects_in Rattle.lines.specs.Listed.is_in
s23 = (_, Careless.then s22.1 (Turn.note s22.0 0 true 0 one (Memᴰ.tail (Memᴰ.head refl)) refl))

abbrev s24 : Run
unfolding listed listed_in entered marked joined heard_of swept objects_listed objects_in Rattle.lines.specs.Listed.is_in
s24 = (_, Careless.then s23.1 (Turn.begin s23.0 one (inr (below_two (λ i. (b : Bool) × (t : ℕ) × (s23.0.desk.now i ≡ some b t)) (true, 0, refl) (true, 0, refl)))))

abbrev s25 : Run
unfolding listed listed_in entered marked joined heard_of swept objects_listed objects_in Rattle.lines.specs.Listed.is_in
s25 = (_, Careless.then s24.1 (Turn.reply s24.0 1 2 true two (Memᴰ.head refl) (λ _. (record { all_told = λ o a u. absurd (nothing_met u); all_answered = λ o t. absurd t }, λ e t. t)) (λ e. absurd (subst T e tt))))

-- 0 tells of 33, which is answered; only now it answers the second round
abbrev s26 : Run
unfolding listed listed_in entered marked joined heard_of swept objects_listed objects_in Rattle.lines.specs.Listed.is_in
s26 = (_, Careless.then s25.1 (Turn.tell s25.0 0 33 one (λ e. omega arith) (Met.start refl)))

abbrev s27 : Run
unfolding listed listed_in entered marked joined heard_of swept objects_listed objects_in Rattle.lines.specs.Listed.is_in
s27 = (_, Careless.then s26.1 (Turn.mark s26.0 1 33 0 two refl (Memᴰ.head refl)))

abbrev s28 : Run
unfolding listed listed_in entered marked joined heard_of swept objects_listed objects_in Rattle.lines.specs.Listed.is_in
s28 = (_, Careless.then s27.1 (Turn.answer s27.0 0 33 one (Memᴰ.head refl) tt))

abbrev s29 : Run
unfolding listed listed_in entered marked joined heard_of swept objects_listed objects_in Rattle.lines.specs.Listed.is_in
s29 = (_, Careless.reply 0 2 s28.1 one (Memᴰ.tail (Memᴰ.tail (Memᴰ.head refl))) (record { all_told = λ o a u. mem→is_in (Memᴰ.head {xs = []} (bare_met u)); all_answered = λ o t. t }))

abbrev s30 : Run
unfolding listed listed_in entered marked joined heard_of swept objects_listed objects_in Rattle.lines.specs.Listed.is_in
s30 = (_, Careless.then s29.1 (Turn.note s29.0 0 true 0 one (Memᴰ.head refl) refl))

abbrev s31 : Run
unfolding listed listed_in entered marked joined heard_of swept objects_listed objects_in Rattle.lines.specs.Listed.is_in
s31 = (_, Careless.then s30.1 (Turn.note s30.0 1 true 0 two (Memᴰ.tail (Memᴰ.tail (Memᴰ.head refl))) refl))

-- complete, though 33 is in use at 1 and its field was never told: 0 sweeps, collects, and 16 is gone
abbrev s32 : Run
unfolding listed listed_in entered marked joined heard_of swept objects_listed objects_in Rattle.lines.specs.Listed.is_in
s32 = (_, Careless.then s31.1 (Turn.complete s31.0 (record { somebody = one; second = omega arith; same = below_two (λ i. (t : ℕ) × (s31.0.desk.now i ≡ some true t) × (s31.0.desk.before i ≡ some true t)) (0, refl, refl) (0, refl, refl) })))

abbrev s33 : Run
unfolding listed listed_in entered marked joined heard_of swept objects_listed objects_in Rattle.lines.specs.Listed.is_in
s33 = (_, Careless.then s32.1 (Turn.cleans s32.0 (Cleans.sweep s32.0.net 0 one (Memᴰ.head refl)) tt))

abbrev s34 : Run
unfolding listed listed_in entered marked joined heard_of swept objects_listed objects_in Rattle.lines.specs.Listed.is_in
s34 = (_, Careless.then s33.1 (Turn.cleans s33.0 (Cleans.collect s33.0.net 0 [] one (record { some = Some.left Some.end; stays = λ o t m. absurd (gone (bare_met m) t); only = λ o t. absurd t })) tt))

pub stirred_needed : StirredNeeded
unfolding listed listed_in entered marked joined heard_of swept objects_listed objects_in Rattle.lines.specs.Listed.is_in
stirred_needed = (s34.0, s34.1, (1, 16, Has.field (Has.root {j = 0} {o = 33} tt) tt tt, λ x. x.present_at_home))
