-- The bytes of tellings one by one.
use Rattle.std.proofs.Common.{◌≡◌, ℕ, ◌+◌, ◌<◌, List, [], ◌∷◌, ◌++◌, map, length, get_or, take, vec_items, Vec}
use Rattle.std.proofs.lemmas.List.{take_more, map-append}
use Rattle.std.specs.declared.alloc.Global.{Global}
use Rattle.wire.specs.declared.message.Message.TheVariants.{Telling}
use Rattle.wire.specs.declared.names.Census.{Census}
use Rattle.wire.specs.declared.names.House.{House}
use Rattle.wire.specs.declared.names.Name.{Name}
use Rattle.wire.specs.Format.{encode}
use Rattle.store.specs.Sending.{bytes_of, contents, tellings}

-- one telling more
pub told_more :
    (c : Census) (from : House) (ns : List Name) (i : ℕ) (d : Name) (out more : Vec (Vec ℕ Global) Global) (v : Vec ℕ Global) → i < length ns → contents out ≡ map bytes_of (tellings c from (take i ns)) → vec_items more ≡ vec_items out ++ (v ∷ []) →
    vec_items v ≡ encode (Telling c (get_or ns i d) from) [] → contents more ≡ map bytes_of (tellings c from (take (i + 1) ns))
told_more c from ns i d out more v h e f g = rw (f, take_more ns i d h, map-append, map-append, map-append, map-append, e, g)
