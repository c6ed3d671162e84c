-- Six facts of a call that a function hands on to a call of itself.

-- with what that call requires
pub handed_on : {A B C D E F R : Type 0} → A × (B × (C × (D × (E × F)))) → R → A × (B × (C × (D × (E × (F × R)))))
handed_on (a, (b, (c, (d, (e, f))))) more = (a, (b, (c, (d, (e, (f, more))))))
